use Rattle.committee.specs.Committee.{is_quorum}
use Rattle.slip_read_certifier.proofs.hold_quorum.Goals as goal

pub returns : goal.returns
unfolding is_quorum
returns c = rw (← c.requires.1, ← c.stake_of-stake.ensures) c.is_quorum.ensures
