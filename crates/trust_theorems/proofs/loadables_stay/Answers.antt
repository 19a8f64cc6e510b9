use Rattle.trust_theorems.proofs.Loads.{loadables_stay}
use Rattle.trust_theorems.proofs.loadables_stay.Goals as goal

pub returns : goal.returns
returns c = loadables_stay
