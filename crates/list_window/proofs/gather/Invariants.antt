use Prim.Native.Nat.{◌-◌, ◌≤◌}
use mathlib.Core.Path.{◌≡◌}
use lib.ListN.{length}
use Rattle.types.specs.Values.{as_maybe}
use Rattle.list_lanes.specs.Lanes.{lane_ranges}
use Rattle.list_window.specs.Window.{Gathering}
use Rattle.list_window.proofs.gather.Given as goal

abbrev pub invariant-loop-k : goal.invariant-loop-k
invariant-loop-k l = (l.k ≤ 3072) ×
    ((length l.edges ≡ length l.initial.edges) × ((length l.spare ≡ 16386)
    × Gathering (lane_ranges l.wanted l.store l.order) l.store (as_maybe l.last) (as_maybe l.window.bound) l.edges
    l.window.n l.k))
