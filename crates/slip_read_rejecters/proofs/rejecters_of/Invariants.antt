use Prim.Native.Nat.{◌-◌}
use Rattle.slip_read_rejecters.proofs.Rejecters.{Joined}
use Rattle.slip_read_rejecters.proofs.rejecters_of.Given as goal

abbrev pub invariant-loop-k : goal.invariant-loop-k
invariant-loop-k l = Joined l.records l.order l.place l.rejecting l.initial.found l.found l.k
