-- What the code's answer says. Assumes nothing: these are definitions.
use Rattle.std.specs.Prelude.{ℕ}
use Rattle.base.specs.Checks.{Answer, refused, answered}
use Rattle.std.specs.Prelude.{Err, Ok, Result}
use Rattle.base.specs.declared.refusal.Refusal.{Refusal}
use Rattle.base.specs.Refusals.{refusal_number}

-- the number of locators; or 5, 10, 54, 62, 63
unfoldable pub as_sorted : Result ℕ Refusal → Answer ℕ
as_sorted (Ok n) = answered n
as_sorted (Err k) = refused (refusal_number k)
