use Rattle.list_readings_spec.specs.Answers.{is_ordinary}
use Rattle.list_lanes.proofs.wants_shares.Goals as goal

pub returns-in-Ordinary : goal.returns-in-Ordinary
unfolding is_ordinary
returns-in-Ordinary c = rw c.in-Ordinary.is

pub returns-in-Wide : goal.returns-in-Wide
unfolding is_ordinary
returns-in-Wide c = rw c.in-Wide.is
