use Rattle.trust_theorems.proofs.Staying.{stays_final}
use Rattle.trust_theorems.proofs.stays_final.Goals as goal

pub returns : goal.returns
returns c = stays_final
