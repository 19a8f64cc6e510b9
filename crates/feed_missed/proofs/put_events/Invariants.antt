use Prim.Native.Nat.{◌-◌}
use Rattle.feed_missed.proofs.Telling.{Telling}
use Rattle.feed_missed.proofs.put_events.Given as goal

abbrev pub invariant-loop-o : goal.invariant-loop-o
invariant-loop-o l = Telling (λ _. l.kind) l.statement l.start l.end l.n l.initial.events l.o l.k l.events
