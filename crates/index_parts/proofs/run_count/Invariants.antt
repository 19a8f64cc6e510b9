use Prim.Native.Nat.{◌-◌, ◌≤◌}
use Rattle.index_runs.specs.Values.{as_maybe}
use Rattle.index_strides.proofs.Stepping.{Stepping}
use Rattle.index_parts.proofs.run_count.Given as goal

abbrev pub invariant-loop-next : goal.invariant-loop-next
invariant-loop-next l = (l.k ≤ l.most) × Stepping l.own l.initial.mine l.mine l.index l.n l.initial.cursors l.cursors (as_maybe l.next) l.k

abbrev pub decreases-loop-next : goal.decreases-loop-next
decreases-loop-next l = l.most - l.k
