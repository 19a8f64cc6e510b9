use Prim.Native.Nat.{◌-◌}
use Rattle.base.specs.Lists.{pick}
use Rattle.record_spec.specs.Block.{is_share_at}
use Rattle.record_spec.specs.Record.{block_in}
use Rattle.pending_question.specs.Step.{NotPast}
use Rattle.feed_missed.proofs.Telling.{Telling}
use Rattle.feed_missed.proofs.missed_in.Given as goal

abbrev pub invariant-loop-o : goal.invariant-loop-o
invariant-loop-o l = Telling (λ q. pick (is_share_at (block_in l.rec) q) 2 3) l.statement l.start l.end l.n l.initial.events
    l.o l.k l.events × NotPast l.rec l.o l.cursor
