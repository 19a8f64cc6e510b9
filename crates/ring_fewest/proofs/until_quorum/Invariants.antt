use Prim.Native.Nat.{◌-◌}
use Rattle.committee_set.specs.AuthoritySet.{number_of_voters}
use Rattle.ring_owners.proofs.Turns.{Ringing}
use Rattle.ring_fewest.proofs.until_quorum.Given as goal

abbrev pub invariant-loop-total : goal.invariant-loop-total
invariant-loop-total l = Ringing l.stakes l.initial.counted l.reachable l.owners l.counted l.stake

abbrev pub decreases-loop-total : goal.decreases-loop-total
decreases-loop-total l = 128 - number_of_voters l.counted
