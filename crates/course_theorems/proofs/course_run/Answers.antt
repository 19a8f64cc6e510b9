use Rattle.course_theorems.proofs.Evaluated.{course}
use Rattle.course_theorems.proofs.course_run.Goals as goal

pub returns : goal.returns
returns c = course
