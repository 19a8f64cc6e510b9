-- What the code's answer says. Assumes nothing: these are definitions.
use Rattle.std.specs.Prelude.{ℕ, Err, Ok, Result}
use Rattle.base.specs.Checks.{Answer, refused, answered}
use Rattle.base.specs.declared.refusal.Refusal.{Refusal}
use Rattle.base.specs.Refusals.{refusal_number}

-- the number of places; or 5, 10, 58
unfoldable pub as_loadable_list : Result ℕ Refusal → Answer ℕ
as_loadable_list (Ok n) = answered n
as_loadable_list (Err k) = refused (refusal_number k)
