use Rattle.committee_aggregator.specs.StakeAggregator.{aggregator_in_order}
use mathlib.Core.Path.{sym, ◌∙◌}
use Rattle.committee_aggregator.proofs.StakeAggregator.in_order.Goals as goal

pub returns-then-not-all_known : goal.returns-then-not-all_known
unfolding aggregator_in_order
returns-then-not-all_known c = rw (sym c.all_known.ensures ∙ c.if-not-all_known.true)

pub returns : goal.returns
unfolding aggregator_in_order
returns c = rw (
  sym c.all_known.ensures ∙ c.if-not-all_known.false,
  c.stake_of-sum.ensures,
)
