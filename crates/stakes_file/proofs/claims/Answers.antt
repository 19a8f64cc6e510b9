use Rattle.stakes_file.proofs.Claimed.{claimed}
use Rattle.stakes_file.proofs.claims.Goals as goal

pub returns : goal.returns
returns c = claimed
