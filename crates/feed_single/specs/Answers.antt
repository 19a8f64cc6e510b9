-- What the code's answer says, in the values and refusal numbers of document 01. Assumes nothing: these are definitions.
use Rattle.std.specs.Prelude.{ℕ}
use Rattle.base.specs.Checks.{Answer, refused, answered}
use Rattle.std.specs.Prelude.{Err, Ok, Result}
use Rattle.base.specs.declared.refusal.Refusal.{Refusal}
use Rattle.base.specs.Refusals.{refusal_number}

-- 01: "Feeding answers the number of events"; or the first refusal
unfoldable pub as_feed_answer : Result ℕ Refusal → Answer ℕ
as_feed_answer (Ok n) = answered n
as_feed_answer (Err n) = refused (refusal_number n)
