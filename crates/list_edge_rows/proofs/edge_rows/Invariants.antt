use Prim.Native.Nat.{◌-◌, ◌≤◌}
use Rattle.list_edge_rows.specs.Edges.{Edged}
use Rattle.list_edge_rows.proofs.edge_rows.Given as goal

abbrev pub invariant-loop-i : goal.invariant-loop-i
invariant-loop-i l = (l.i ≤ l.m) × Edged l.rows l.initial.edges l.edges l.i l.place l.n l.k
