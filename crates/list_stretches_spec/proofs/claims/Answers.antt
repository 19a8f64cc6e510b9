use Rattle.list_stretches_spec.proofs.Claimed.{claimed}
use Rattle.list_stretches_spec.proofs.claims.Goals as goal

pub returns : goal.returns
returns c = claimed
