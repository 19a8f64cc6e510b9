use Rattle.calendar_windows.proofs.Weeks.{week_small}
use Rattle.calendar_windows.proofs.week_second.Goals as goal

pub returns : goal.returns
returns c = week_small c.args.time
