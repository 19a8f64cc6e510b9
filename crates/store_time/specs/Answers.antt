-- What the answer of the code stands for. Assumes nothing: these are definitions.
use Rattle.std.specs.Prelude.{ℕ}
use Rattle.std.proofs.Math.Option.{Option, none, some}
use Rattle.base.specs.Checks.{Answer, refused, answered}
use Rattle.std.specs.Prelude.{Err, None, Ok, Some, Result}
use Rattle.base.specs.declared.refusal.Refusal.{Refusal}
use Rattle.base.specs.Refusals.{refusal_number}
use Rattle.std.specs.declared.option.Option as code

-- a time or none, or 5, 10
unfoldable pub as_time_answer : Result (code.Option ℕ) Refusal → Answer (Option ℕ)
as_time_answer (Ok (Some x)) = answered (some x)
as_time_answer (Ok None) = answered none
as_time_answer (Err k) = refused (refusal_number k)
