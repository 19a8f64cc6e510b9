use Rattle.committee.specs.Committee.{is_quorum}
use Rattle.sorted_step.proofs.final_word.Goals as goal

pub returns-then-is_quorum : goal.returns-then-is_quorum
unfolding is_quorum
returns-then-is_quorum c = rw (← c.requires.1, ← c.stake_of.ensures, ← c.is_quorum.ensures, c.if-is_quorum.true)

pub returns : goal.returns
unfolding is_quorum
returns c = rw (← c.requires.1, ← c.stake_of.ensures, ← c.is_quorum.ensures, c.if-is_quorum.false)
