use Rattle.stakes_names.proofs.Names.{claimed}
use Rattle.stakes_names.proofs.claims.Goals as goal

pub returns : goal.returns
returns c = claimed
