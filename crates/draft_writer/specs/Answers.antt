-- What the writer's enum says, in the values and refusal numbers of document 02. Assumes nothing: these are definitions.
use Rattle.std.specs.Prelude.{ℕ}
use Rattle.base.specs.Checks.{Answer, refused, answered}
use Rattle.std.specs.Prelude.{Err, Ok, Result}
use Rattle.base.specs.declared.refusal.Refusal.{Refusal}
use Rattle.base.specs.Refusals.{refusal_number}

-- 02: "answers its length"; 51, 50
unfoldable pub as_write_answer : Result ℕ Refusal → Answer ℕ
as_write_answer (Ok n) = answered n
as_write_answer (Err k) = refused (refusal_number k)
