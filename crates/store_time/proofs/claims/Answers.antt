use Rattle.store_time.proofs.Claimed.{claimed}
use Rattle.store_time.proofs.claims.Goals as goal

pub returns : goal.returns
returns c = claimed
