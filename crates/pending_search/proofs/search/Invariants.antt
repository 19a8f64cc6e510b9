use Prim.Native.Nat.{◌-◌}
use Rattle.pending_spec.specs.Table.{items_of}
use Rattle.pending_search.proofs.Halves.{Halved}
use Rattle.pending_search.proofs.search.Given as goal

abbrev pub invariant-loop-low : goal.invariant-loop-low
invariant-loop-low l = Halved l.p l.o (items_of l.t) l.low l.high

abbrev pub decreases-loop-low : goal.decreases-loop-low
decreases-loop-low l = l.high - l.low
