use mathlib.Core.Path.{sym, ◌∙◌}
use Rattle.committee_aggregator.proofs.StakeAggregator.with_vote.Goals as goal

pub returns-then-contains : goal.returns-then-contains
returns-then-contains c = rw (sym c.contains.ensures ∙ c.if-contains.true)

pub returns : goal.returns
returns c = rw (sym c.contains.ensures ∙ c.if-contains.false, c.insert.ensures)
