use Rattle.calendar_windows.proofs.Claimed.{claimed}
use Rattle.calendar_windows.proofs.claims.Goals as goal

-- src/lib.rt:143:1

pub returns : goal.returns
returns c = claimed
