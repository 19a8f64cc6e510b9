use Rattle.std.proofs.Common.{ap}
use Rattle.committee_aggregator.specs.Answers.{as_added}
use Rattle.committee_aggregator.specs.StakeAggregator.{Added}
use Rattle.committee_aggregator.proofs.add.Goals as goal

pub returns : goal.returns
unfolding as_added
returns c = (ap (λ (r : Added). r.answer) c.add-added.ensures, ap (λ (r : Added). r.aggregator) c.add-added.ensures)
