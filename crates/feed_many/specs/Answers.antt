-- What the code's answer says, as a number of records or a refusal's number. Assumes nothing: these are definitions.
use Rattle.std.specs.Prelude.{ℕ}
use Rattle.base.specs.Checks.{Answer, refused, answered}
use Rattle.std.specs.Prelude.{Err, Ok, Result}
use Rattle.base.specs.declared.refusal.Refusal.{Refusal}
use Rattle.base.specs.Refusals.{refusal_number}

unfoldable pub as_records_answer : Result ℕ Refusal → Answer ℕ
as_records_answer (Ok n) = answered n
as_records_answer (Err n) = refused (refusal_number n)
