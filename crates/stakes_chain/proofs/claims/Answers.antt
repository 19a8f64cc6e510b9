use Rattle.stakes_chain.proofs.Claimed.{claimed}
use Rattle.stakes_chain.proofs.claims.Goals as goal

pub returns : goal.returns
returns c = claimed
