-- What the code's values mean where the final list is asked for. Assumes nothing: these are definitions.
use Rattle.std.specs.Prelude.{false}
use Rattle.base.specs.Checks.{Answer, refused, answered}
use Rattle.list_stretches_spec.specs.Bulk.{Given}
use Rattle.listing_final_steps.specs.declared.Asked.{Asked}

unfoldable pub given_in : Asked → Given
given_in a = record { stretches = a.count; more = a.more }

-- what was given; nothing where the question is refused
unfoldable pub given_by : Answer Given → Given
given_by (refused n) = record { stretches = 0; more = false }
given_by (answered g) = g
