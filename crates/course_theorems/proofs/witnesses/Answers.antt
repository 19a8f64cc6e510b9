use Rattle.course_theorems.proofs.Witnessed.{witnesses}
use Rattle.course_theorems.proofs.witnesses.Goals as goal

pub returns : goal.returns
returns c = witnesses
