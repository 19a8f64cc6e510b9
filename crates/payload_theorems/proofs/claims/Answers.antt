use Rattle.payload_theorems.proofs.Claimed.{claimed}
use Rattle.payload_theorems.proofs.claims.Goals as goal

pub returns : goal.returns
returns c = claimed
