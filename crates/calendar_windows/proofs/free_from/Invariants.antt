use mathlib.Core.Path.{◌≡◌}
use Prim.Native.Nat.{◌%◌, ◌≤◌, ◌-◌}
use lib.ListN.{length, drop}
use Rattle.calendar_windows.specs.Calendar.{windows}
use Rattle.calendar_windows.proofs.Freed.{free_from}
use Rattle.calendar_windows.proofs.free_from.Given as goal

abbrev pub invariant-loop-i : goal.invariant-loop-i
invariant-loop-i l = (l.i % 2 ≡ 0) × ((l.i ≤ length l.calendar) ×
    (free_from (windows l.calendar) l.second ≡ free_from (windows (drop l.i l.calendar)) l.free))

abbrev pub decreases-loop-i : goal.decreases-loop-i
decreases-loop-i l = length l.calendar - l.i
