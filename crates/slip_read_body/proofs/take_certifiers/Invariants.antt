use Prim.Native.Nat.{◌-◌}
use Rattle.slip_read_body.proofs.Gathering.{Gathering}
use Rattle.slip_read_body.proofs.take_certifiers.Given as goal

abbrev pub invariant-loop-i : goal.invariant-loop-i
invariant-loop-i l = Gathering l.stakes l.slip l.records
    l.order l.votes l.lacking l.rejecting l.at l.authors l.shown l.last l.i
