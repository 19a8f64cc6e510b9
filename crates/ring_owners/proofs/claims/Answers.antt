use Rattle.ring_owners.proofs.Claimed.{claimed}
use Rattle.ring_owners.proofs.claims.Goals as goal

pub returns : goal.returns
returns c = claimed
