use Rattle.std.proofs.Common.{◌≡◌, ◌-◌, ◌≤◌, length}
use Rattle.listing_run.proofs.print_stretch.Given as goal

abbrev pub invariant-loop-done : goal.invariant-loop-done
invariant-loop-done g l = l.done ≤ l.stretch.lines

abbrev pub decreases-loop-done : goal.decreases-loop-done
decreases-loop-done g l = l.stretch.lines - l.done
