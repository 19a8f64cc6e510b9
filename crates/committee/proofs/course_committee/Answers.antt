use mathlib.Core.Path.{refl}
use Rattle.committee.specs.Committee.{course_committee}
use Rattle.committee.proofs.course_committee.Goals as goal

pub returns : goal.returns
unfolding course_committee
returns c = refl
