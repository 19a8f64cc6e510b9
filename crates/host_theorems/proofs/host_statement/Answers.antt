use Rattle.host_theorems.proofs.Claimed.{claimed}
use Rattle.host_theorems.proofs.host_statement.Goals as goal

pub returns : goal.returns
returns c = claimed
