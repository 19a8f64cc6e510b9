use Rattle.committee.proofs.Claimed.{claimed}
use Rattle.committee.proofs.claims.Goals as goal

pub returns : goal.returns
returns c = claimed
