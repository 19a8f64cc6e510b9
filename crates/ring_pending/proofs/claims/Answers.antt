use Rattle.ring_pending.proofs.Asked.{claimed}
use Rattle.ring_pending.proofs.claims.Goals as goal

pub returns : goal.returns
returns c = claimed
