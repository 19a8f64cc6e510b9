use Rattle.edition_theorems.proofs.Claimed.{claimed}
use Rattle.edition_theorems.proofs.claims.Goals as goal

pub returns : goal.returns
returns c = claimed
