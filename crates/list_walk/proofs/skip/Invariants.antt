use Prim.Native.Nat.{◌-◌}
use Rattle.list_walk.specs.Walk.{Skipped}
use Rattle.list_walk.proofs.skip.Given as goal

abbrev pub invariant-loop-k : goal.invariant-loop-k
invariant-loop-k l = Skipped l.own l.n l.initial.certified l.certified l.k

abbrev pub decreases-loop-k : goal.decreases-loop-k
decreases-loop-k l = l.n - l.k
