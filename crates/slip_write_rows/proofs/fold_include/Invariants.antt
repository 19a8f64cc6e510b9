use Prim.Native.Nat.{◌-◌, ◌≤◌}
use Rattle.slip_write_rows.specs.Rows.{Folded}
use Rattle.slip_write_rows.proofs.fold_include.Given as goal

abbrev pub invariant-loop-a : goal.invariant-loop-a
invariant-loop-a l = (l.a ≤ 128) × Folded l.initial.near l.initial.steps l.k l.i l.j l.near l.steps l.a
