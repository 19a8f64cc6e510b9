use Rattle.trust_theorems.proofs.Meeting.{certificates_meet}
use Rattle.trust_theorems.proofs.certificates_meet.Goals as goal

pub returns : goal.returns
returns c = certificates_meet
