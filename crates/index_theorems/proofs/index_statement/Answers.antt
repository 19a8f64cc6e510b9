use Rattle.index_theorems.proofs.Stated.{index_statement}
use Rattle.index_theorems.proofs.index_statement.Goals as goal

pub returns : goal.returns
returns c = index_statement
