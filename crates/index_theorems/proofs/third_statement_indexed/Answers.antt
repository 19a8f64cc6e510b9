use Rattle.index_theorems.proofs.Stated.{third_indexed}
use Rattle.index_theorems.proofs.third_statement_indexed.Goals as goal

pub returns : goal.returns
returns c = third_indexed
