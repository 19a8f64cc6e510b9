use Prim.Native.Nat.{◌-◌}
use Rattle.pending_question.specs.Step.{OnEntry, Passed}
use Rattle.pending_question.proofs.entry_from.Given as goal

abbrev pub invariant-loop-at : goal.invariant-loop-at
invariant-loop-at l = OnEntry l.store l.at × Passed l.store l.at l.p

abbrev pub decreases-loop-at : goal.decreases-loop-at
decreases-loop-at l = l.used - l.at
