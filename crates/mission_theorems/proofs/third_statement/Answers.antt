use Rattle.mission_theorems.proofs.ThirdStatement.{third_statement}
use Rattle.mission_theorems.proofs.third_statement.Goals as goal

pub returns : goal.returns
returns c = third_statement
