use Prim.Native.Nat.{◌-◌}
use Rattle.slip_read_voters.proofs.Taking.{Taking}
use Rattle.slip_read_voters.proofs.take_voters.Given as goal

abbrev pub invariant-loop-i : goal.invariant-loop-i
invariant-loop-i l = Taking l.slip l.from l.count l.records l.order l.votes
    l.certifier l.at l.authors l.shown l.last l.i
