use Rattle.calendar_windows.proofs.Evaluated.{evaluated}
use Rattle.calendar_windows.proofs.cards.Goals as goal

pub returns : goal.returns
returns c = evaluated
