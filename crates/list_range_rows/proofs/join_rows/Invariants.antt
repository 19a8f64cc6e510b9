use Prim.Native.Nat.{◌-◌, ◌≤◌}
use Rattle.list_range_rows.specs.Ranges.{RowsJoined}
use Rattle.list_range_rows.proofs.Passing.{Below}
use Rattle.list_range_rows.proofs.join_rows.Given as goal

abbrev pub invariant-loop-i : goal.invariant-loop-i
invariant-loop-i l = (l.i ≤ l.n) × (RowsJoined l.store l.i l.initial.rows l.rows l.m × Below l.store l.initial.rows l.rows l.n l.m l.i)
