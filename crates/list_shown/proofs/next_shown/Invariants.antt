use mathlib.Core.Path.{◌≡◌}
use mathlib.Core.Option.{some}
use lib.ListN.{length}
use Rattle.base.specs.Lists.{keep}
use Rattle.types.specs.Values.{as_locator}
use Rattle.final_spec.specs.NextFinal.{is_after}
use Rattle.list_lanes.specs.Lanes.{lane_ranges}
use Rattle.list_sweep.specs.Sweep.{Stands, edge_locators}
use Rattle.list_shown.proofs.Reaching.{Reached}
use Rattle.list_shown.proofs.next_shown.Given as goal

abbrev pub invariant-loop-found : goal.invariant-loop-found
invariant-loop-found l = (length l.edges ≡ length l.initial.edges) ×
    (((length l.marks ≡ length l.initial.marks) × (length l.certified ≡ length l.initial.certified)) ×
    (Stands (lane_ranges l.wanted l.store l.order) l.store l.edges l.marks l.at
    × Reached l.wanted l.stakes l.store l.order (as_locator l.initial.at.here) (as_locator l.at.here)))

abbrev pub decreases-loop-found : goal.decreases-loop-found
decreases-loop-found l = length
    (keep (is_after (some (as_locator l.at.here))) (edge_locators (lane_ranges l.wanted l.store l.order)))
