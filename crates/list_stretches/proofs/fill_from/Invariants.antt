use Prim.Native.Nat.{◌-◌, ◌/◌, ◌≤◌}
use mathlib.Core.Path.{◌≡◌}
use lib.ListN.{length}
use Rattle.types.specs.Values.{as_locator}
use Rattle.list_lanes.specs.Lanes.{lane_ranges}
use Rattle.list_sweep.specs.Sweep.{Stands}
use Rattle.list_stretches.proofs.Filling.{Doing}
use Rattle.list_stretches.proofs.fill_from.Given as goal

abbrev pub invariant-loop-f : goal.invariant-loop-f
invariant-loop-f l = (length l.edges ≡ length l.initial.edges)
    × (((length l.marks ≡ length l.initial.marks) × (length l.certified ≡ 1024)) ×
    (((l.n ≤ length l.initial.out / 80) × (length l.out ≡ length l.initial.out)) ×
    (Stands (lane_ranges l.wanted l.store l.order) l.store l.edges l.marks l.sweep
    × Doing l.wanted l.stakes l.store l.initial.out (as_locator l.initial.sweep.here) (as_locator l.sweep.here) l.out
    l.n)))

abbrev pub decreases-loop-f : goal.decreases-loop-f
decreases-loop-f l = l.room - l.n
