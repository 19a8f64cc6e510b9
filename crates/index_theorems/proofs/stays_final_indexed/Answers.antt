use Rattle.index_theorems.proofs.Stated.{stays_indexed}
use Rattle.index_theorems.proofs.stays_final_indexed.Goals as goal

pub returns : goal.returns
returns c = stays_indexed
