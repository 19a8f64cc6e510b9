use Rattle.list_lanes.specs.Lanes.{wants_rejects}
use Rattle.list_lanes.proofs.wants_rejects.Goals as goal

pub returns-in-Old : goal.returns-in-Old
unfolding wants_rejects
returns-in-Old c = rw c.in-Old.is

pub returns-in-Withdrawing : goal.returns-in-Withdrawing
unfolding wants_rejects
returns-in-Withdrawing c = rw c.in-Withdrawing.is
