use Rattle.std.proofs.Common.{◌≡◌, ◌-◌, ◌≤◌, length}
use Rattle.listing_run.proofs.Counting.{Counting}
use Rattle.listing_run.proofs.print_stretches.Given as goal

abbrev pub invariant-loop-i : goal.invariant-loop-i
invariant-loop-i g l = (l.i ≤ l.n) × Counting l.stretches l.n l.i l.finals
