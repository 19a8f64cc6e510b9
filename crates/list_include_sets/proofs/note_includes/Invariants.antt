use Prim.Native.Nat.{◌-◌}
use lib.ListN.{length}
use Rattle.list_include_sets.proofs.Noting.{Noting}
use Rattle.list_include_sets.proofs.note_includes.Given as goal

abbrev pub invariant-loop-k : goal.invariant-loop-k
invariant-loop-k l = Noting l.store l.order l.initial.sets l.sets l.k
