use Rattle.committee_aggregator.proofs.StakeAggregator.new.Goals as goal

pub returns : goal.returns
returns c = rw c.new.ensures
