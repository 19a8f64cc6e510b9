use Rattle.committee_set.proofs.Claimed.{claimed}
use Rattle.committee_set.proofs.claims.Goals as goal

pub returns : goal.returns
returns c = claimed
