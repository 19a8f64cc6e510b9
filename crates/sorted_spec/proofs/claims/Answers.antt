use Rattle.sorted_spec.proofs.Claimed.{claimed}
use Rattle.sorted_spec.proofs.claims.Goals as goal

pub returns : goal.returns
returns c = claimed
