use Prim.Native.Nat.{◌-◌, ◌≤◌}
use Rattle.types.specs.Values.{as_maybe}
use Rattle.list_block_edges.specs.Taken.{EdgesTaken}
use Rattle.list_block_edges.proofs.take_edges.Given as goal

abbrev pub invariant-loop-i : goal.invariant-loop-i
invariant-loop-i l = (l.i ≤ l.m) × EdgesTaken l.store (as_maybe l.last) (as_maybe l.bound) l.rows l.initial.edges l.edges l.i l.place l.n l.k
