-- What the answers of the code stand for. Assumes nothing: these are definitions.
use Rattle.std.specs.Prelude.{ℕ, Bool, true, false}
use Rattle.std.proofs.Math.Option.{Option, none, some}
use Rattle.base.specs.Checks.{Answer, refused, answered}
use Rattle.std.specs.Prelude.{Err, None, Ok, Some, Result}
use Rattle.base.specs.declared.refusal.Refusal.{Refusal}
use Rattle.base.specs.Refusals.{refusal_number}
use Rattle.std.specs.declared.option.Option as code

unfoldable pub as_open : Result Bool Refusal → Answer Bool
as_open (Ok true) = answered true
as_open (Ok false) = answered false
as_open (Err n) = refused (refusal_number n)

unfoldable pub as_next_open : Result (code.Option ℕ) Refusal → Answer (Option ℕ)
as_next_open (Ok (Some r)) = answered (some r)
as_next_open (Ok None) = answered none
as_next_open (Err n) = refused (refusal_number n)
