use Prim.Native.Nat.{◌-◌}
use Rattle.types.specs.Values.{as_reference}
use Rattle.pending_spec.specs.Table.{items_of}
use Rattle.feed_missed.specs.Kinds.{with_new}
use Rattle.feed_events.proofs.Announced.{Announcing}
use Rattle.feed_events.proofs.announce.Given as goal

abbrev pub invariant-loop-o : goal.invariant-loop-o
invariant-loop-o l = Announcing l.total.0 (with_new l.store l.rec) (as_reference l.block)
    l.statement (items_of l.table) l.p l.start l.end l.n l.initial.events l.o l.k l.events

abbrev pub decreases-loop-o : goal.decreases-loop-o
decreases-loop-o l = l.end - l.o
