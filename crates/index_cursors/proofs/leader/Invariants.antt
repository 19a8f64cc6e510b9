use Prim.Native.Nat.{◌-◌}
use Rattle.index_cursors.proofs.leader.Given as goal

abbrev pub invariant-loop-j : goal.invariant-loop-j
invariant-loop-j l = Unit {0}
