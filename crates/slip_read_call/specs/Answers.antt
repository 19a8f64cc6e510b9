-- Which number and value each case of an answer stands for. Assumes nothing: these are definitions.
use Rattle.std.specs.Prelude.{ℕ}
use Rattle.base.specs.Checks.{Answer, refused, answered}
use Rattle.std.specs.Prelude.{Err, Ok, Result}
use Rattle.base.specs.declared.refusal.Refusal.{Refusal}
use Rattle.base.specs.Refusals.{refusal_number}

unfoldable pub as_slip_answer : Result ℕ Refusal → Answer ℕ
as_slip_answer (Ok n) = answered n
as_slip_answer (Err n) = refused (refusal_number n)
