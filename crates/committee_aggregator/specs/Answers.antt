-- What the code's structs say, in the values of document 01. Assumes nothing: these are definitions.
use Rattle.committee_aggregator.specs.declared.StakeAggregator as code-aggregator
use Rattle.committee_aggregator.specs.declared.Added as code-added
use Rattle.committee_aggregator.specs.StakeAggregator.{StakeAggregator, Added}
use Rattle.committee_vote_answer.specs.Answers.{as_add_answer}

-- an aggregator's voters and stake
abbrev pub as_aggregator : code-aggregator.StakeAggregator → StakeAggregator
as_aggregator g = record { votes = g.votes; stake = g.stake.0 }

-- the answer of `add` and the aggregator afterwards
unfoldable pub as_added : code-added.Added → Added
as_added r = record { answer = as_add_answer r.answer; aggregator = as_aggregator r.aggregator }
