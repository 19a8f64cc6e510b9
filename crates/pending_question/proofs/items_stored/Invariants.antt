use Prim.Native.Nat.{◌-◌}
use Rattle.pending_spec.specs.Table.{items_of}
use Rattle.pending_question.proofs.Checked.{Checking}
use Rattle.pending_question.proofs.items_stored.Given as goal

abbrev pub invariant-loop-k : goal.invariant-loop-k
invariant-loop-k l = Checking l.store (items_of l.table) l.walk l.k
