use Prim.Native.Nat.{◌-◌}
use Rattle.pending_question.proofs.Offsets.{Sharing}
use Rattle.pending_question.proofs.shares_in.Given as goal

abbrev pub invariant-loop-o : goal.invariant-loop-o
invariant-loop-o l = Sharing l.rec l.start l.end l.o l.cursor
