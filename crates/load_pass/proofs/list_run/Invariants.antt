use Prim.Native.Nat.{◌-◌}
use Rattle.types.specs.Values.{as_range}
use Rattle.load_pass.proofs.Running.{Going}
use Rattle.load_pass.proofs.list_run.Given as goal

abbrev pub invariant-loop-cursor : goal.invariant-loop-cursor
invariant-loop-cursor l = Going l.store (as_range l.range) l.initial.places l.n l.rec l.places l.cursor l.found

abbrev pub decreases-loop-cursor : goal.decreases-loop-cursor
decreases-loop-cursor l = l.range.offset_end_exclusive - l.cursor.index
