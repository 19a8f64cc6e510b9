-- What the code's answer says, in values and refusal numbers. Assumes nothing: these are definitions.
use Rattle.std.specs.Prelude.{true, false, Err, Ok, Result}
use Rattle.base.specs.Checks.{Answer, refused, answered}
use Rattle.list_stretches_spec.specs.Bulk.{Given}
use Rattle.base.specs.declared.refusal.Refusal.{Refusal}
use Rattle.base.specs.Refusals.{refusal_number}
use Rattle.list_stretch_bytes.specs.declared.Stretches as stretches-answer
use Rattle.list_stretch_bytes.specs.declared.Stretches.TheVariants.{Last, More}

-- the number of stretches written, and whether a final locator follows them; or 5, 10
unfoldable pub as_stretches : Result stretches-answer.Stretches Refusal → Answer Given
as_stretches (Ok (Last n)) = answered (record { stretches = n; more = false })
as_stretches (Ok (More n)) = answered (record { stretches = n; more = true })
as_stretches (Err n) = refused (refusal_number n)
