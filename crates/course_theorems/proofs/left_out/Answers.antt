use Rattle.course_theorems.proofs.Excluded.{exclusions}
use Rattle.course_theorems.proofs.left_out.Goals as goal

pub returns : goal.returns
returns c = exclusions
