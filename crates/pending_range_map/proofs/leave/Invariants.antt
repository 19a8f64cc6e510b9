use Prim.Native.Nat.{◌≤◌, ◌-◌}
use Rattle.pending_spec.specs.Items.{stays}
use Rattle.pending_spec.specs.Table.{items_of}
use Rattle.pending_words.proofs.Moves.{Kept}
use Rattle.pending_range_map.proofs.leave.Given as goal

abbrev pub invariant-loop-k : goal.invariant-loop-k
invariant-loop-k l = (l.k ≤ l.n) × Kept (stays l.total.0 l.p l.start l.end) (items_of l.initial.t) l.initial.t l.kept l.k l.t
