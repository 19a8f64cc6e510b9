use Prim.Native.Nat.{◌-◌, ◌≤◌}
use lib.ListN.{length}
use Rattle.list_marked.specs.Marked.{MarkedIn}
use Rattle.list_marked.proofs.marked_authors.Given as goal

abbrev pub invariant-loop-k : goal.invariant-loop-k
invariant-loop-k l = (l.k ≤ length l.order) × MarkedIn l.store l.order l.marks l.k l.authors
