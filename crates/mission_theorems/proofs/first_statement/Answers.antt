use Rattle.mission_theorems.proofs.FirstStatement.{first_statement}
use Rattle.mission_theorems.proofs.first_statement.Goals as goal

pub returns : goal.returns
returns c = first_statement
