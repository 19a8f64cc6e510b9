use Rattle.list_readings_spec.proofs.Claimed.{claimed}
use Rattle.list_readings_spec.proofs.claims.Goals as goal

pub returns : goal.returns
returns c = claimed
