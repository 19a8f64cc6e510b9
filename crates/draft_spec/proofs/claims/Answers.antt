use Rattle.draft_spec.proofs.Claimed.{claimed}
use Rattle.draft_spec.proofs.Examples.{evaluated}
use Rattle.draft_spec.proofs.claims.Goals as goal

pub returns : goal.returns
returns c = (claimed, evaluated)
