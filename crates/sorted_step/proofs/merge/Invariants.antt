use Prim.Native.Nat.{◌+◌, ◌-◌}
use Rattle.committee_quorum.specs.Sure.{Sure}
use Rattle.sorted_step.proofs.Merges.{Merges}
use Rattle.sorted_step.proofs.merge.Given as goal

abbrev pub invariant-loop-i : goal.invariant-loop-i
invariant-loop-i l = Sure l.stakes l.last × Merges l.stakes l.author.0 l.part l.locators l.initial.replies
    l.replies l.i l.j

abbrev pub decreases-loop-i : goal.decreases-loop-i
decreases-loop-i l = (l.n - l.i) + (l.m - l.j)
