use Rattle.index_list_spec.proofs.Claimed.{claimed}
use Rattle.index_list_spec.proofs.claims.Goals as goal

pub returns : goal.returns
returns c = claimed
