use Rattle.trust_theorems.proofs.Slips.{slips_stay}
use Rattle.trust_theorems.proofs.slips_stay.Goals as goal

pub returns : goal.returns
returns c = slips_stay
