use Prim.Native.Nat.{◌-◌, ◌≤◌}
use Rattle.index_cursors.proofs.Moving.{MovingBy}
use Rattle.index_cursors.proofs.move_on.Given as goal

abbrev pub invariant-loop-j : goal.invariant-loop-j
invariant-loop-j l = (l.j ≤ l.n) × MovingBy l.initial.cursors l.k l.cursors l.j
