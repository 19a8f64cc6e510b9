use Rattle.committee_vote_answer.specs.Answers.{as_add_answer}
use Rattle.committee_vote_answer.specs.VoteAnswer.{told_of}
use Rattle.committee_vote_answer.proofs.told.Goals as goal

pub returns-then-now : goal.returns-then-now
unfolding as_add_answer told_of
returns-then-now c = rw (c.if-repeated.true, c.if-now.true)

pub returns-then-repeated : goal.returns-then-repeated
unfolding as_add_answer told_of
returns-then-repeated c = rw (c.if-repeated.true, c.if-now.false)

pub returns-then-now-2 : goal.returns-then-now-2
unfolding as_add_answer told_of
returns-then-now-2 c = rw (c.if-repeated.false, c.if-now-2.true)

pub returns : goal.returns
unfolding as_add_answer told_of
returns c = rw (c.if-repeated.false, c.if-now-2.false)
