-- Every definition of the crate and of those below it at once, for evaluated examples: `unfolding computing`. Assumes nothing.
use Rattle.committee_set.proofs.Computing.{computing as computing-authority-set}
use Rattle.committee_vote_answer.specs.VoteAnswer.{told_of}
use Rattle.committee_aggregator.specs.StakeAggregator.{counted, has_quorum, aggregator_in_order, add_checks, told, add}

unfoldable pub computing : Unit {0}
unfolding computing-authority-set counted has_quorum aggregator_in_order add_checks told_of told add
computing = tt
