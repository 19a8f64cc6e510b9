use Prim.Native.Nat.{◌-◌, ◌≤◌}
use lib.ListN.{length}
use Rattle.types.specs.Values.{as_locator}
use Rattle.slip_write_distances.specs.Near.{Distances}
use Rattle.slip_write_distances.proofs.find_distances.Given as goal

abbrev pub invariant-loop-k : goal.invariant-loop-k
invariant-loop-k l = (l.k ≤ length l.order) × Distances l.store l.order (as_locator l.locator) l.near l.steps l.k
