use Rattle.committee_aggregator.proofs.Claimed.{claimed}
use Rattle.committee_aggregator.proofs.claims.Goals as goal

pub returns : goal.returns
returns c = claimed
