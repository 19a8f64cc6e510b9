use Prim.Native.Nat.{◌-◌, ◌≤◌}
use mathlib.Core.Path.{◌≡◌}
use lib.ListN.{length}
use Rattle.types.specs.Values.{as_locator}
use Rattle.list_lanes.specs.Lanes.{lane_ranges}
use Rattle.list_sweep_start.proofs.Covering.{MarkedBelow}
use Rattle.list_sweep_start.proofs.mark_lanes.Given as goal

abbrev pub invariant-loop-k : goal.invariant-loop-k
invariant-loop-k l = (l.k ≤ 3072) ×
    (((length l.rows ≡ 3072) × (length l.spare ≡ 3072))
    × ((length l.marks ≡ length l.initial.marks) × MarkedBelow (lane_ranges l.wanted l.store l.order) l.marks (as_locator l.locator)
    l.k))
