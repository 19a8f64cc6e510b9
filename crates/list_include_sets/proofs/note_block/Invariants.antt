use Prim.Native.Nat.{◌-◌, ◌≤◌}
use Rattle.list_include_sets.specs.Sets.{NotedRow}
use Rattle.list_include_sets.proofs.note_block.Given as goal

abbrev pub invariant-loop-j : goal.invariant-loop-j
invariant-loop-j l = (l.j ≤ l.count) × NotedRow l.store l.order l.k l.j l.initial.sets l.sets
