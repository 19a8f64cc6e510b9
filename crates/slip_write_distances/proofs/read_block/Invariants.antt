use Prim.Native.Nat.{◌-◌, ◌≤◌}
use Rattle.types.specs.Values.{as_locator}
use Rattle.slip_write_distances.proofs.Reading.{Reading}
use Rattle.slip_write_distances.proofs.read_block.Given as goal

abbrev pub invariant-loop-j : goal.invariant-loop-j
invariant-loop-j l = (l.j ≤ l.count) × Reading l.store l.order (as_locator l.locator) l.initial.near l.initial.steps l.k l.near l.steps l.j
