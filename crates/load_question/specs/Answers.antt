-- What the code's enums say. Assumes nothing: these are definitions.
use Rattle.std.specs.Prelude.{Bool, Err, Ok, Result}
use Rattle.base.specs.Checks.{Answer, refused, answered}
use Rattle.base.specs.declared.refusal.Refusal.{Refusal}
use Rattle.base.specs.Refusals.{refusal_number}

-- 02: "Give yes or no for a locator"; or 5, 10
unfoldable pub as_loadable : Result Bool Refusal → Answer Bool
as_loadable (Ok loadable) = answered loadable
as_loadable (Err n) = refused (refusal_number n)
