-- What was lent is put together again with the answer.
use Rattle.committee_aggregator.specs.Answers.{as_added}
use Rattle.committee_lent_add.proofs.add_lent.Goals as goal

pub returns : goal.returns
unfolding as_added
returns c = rw (c.added.ensures.0, c.added.ensures.1, c.add-answer.ensures.0, c.add-answer.ensures.1)
