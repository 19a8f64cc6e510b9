use borrow.Author.Tests.{lt-ltb, le-ltb}
use Rattle.committee.specs.Committee.{known, get_stake}
use Rattle.committee.specs.Answers.{found_stake}
use Rattle.committee.proofs.get_stake.Goals as goal

pub returns-then-stakes-a : goal.returns-then-stakes-a
unfolding found_stake known
returns-then-stakes-a c = rw (le-ltb _ _ c.if-stakes-a.true)

pub returns : goal.returns
unfolding found_stake known get_stake
returns c = rw (lt-ltb _ _ c.if-stakes-a.false)
