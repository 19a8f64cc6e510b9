use Prim.Native.Nat.{◌-◌}
use Rattle.pending_question.specs.Step.{NotPast}
use Rattle.pending_question.proofs.share_at.Given as goal

abbrev pub invariant-loop-cursor : goal.invariant-loop-cursor
invariant-loop-cursor l = NotPast l.rec l.o l.cursor

abbrev pub decreases-loop-cursor : goal.decreases-loop-cursor
decreases-loop-cursor l = l.o - l.cursor.index
