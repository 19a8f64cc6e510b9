use Prim.Native.Nat.{◌-◌, ◌≤◌}
use Rattle.index_own_runs.proofs.Writing.{RunsPut}
use Rattle.index_own_runs.proofs.write_runs.Given as goal

abbrev pub invariant-loop-i : goal.invariant-loop-i
invariant-loop-i l = (l.i ≤ l.m) × RunsPut l.rec l.votes l.rows l.initial.words l.words l.i
