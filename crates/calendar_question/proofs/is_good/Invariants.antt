use mathlib.Core.Path.{◌≡◌}
use Prim.Native.Nat.{◌%◌, ◌≤◌, ◌-◌}
use lib.ListN.{length, drop}
use Rattle.calendar_windows.specs.Calendar.{windows, good_calendar}
use Rattle.calendar_windows.proofs.Order.{in_order_from}
use Rattle.calendar_question.proofs.is_good.Given as goal

abbrev pub invariant-loop-i : goal.invariant-loop-i
invariant-loop-i l = (l.i % 2 ≡ 0) × ((l.i ≤ length l.calendar) × (good_calendar l.calendar ≡ in_order_from l.last_end (windows (drop l.i l.calendar))))

abbrev pub decreases-loop-i : goal.decreases-loop-i
decreases-loop-i l = length l.calendar - l.i
