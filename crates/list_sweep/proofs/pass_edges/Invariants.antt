use Prim.Native.Nat.{ℕ, ◌-◌, ◌≤◌, ◌<◌}
use mathlib.Core.Path.{◌≡◌}
use mathlib.Core.Bool.{Bool, false}
use lib.ListN.{length}
use Rattle.list_row_sort.specs.Rows.{row_at, row_before}
use Rattle.list_sweep.specs.Sweep.{Swept}
use Rattle.list_sweep.proofs.pass_edges.Given as goal

abbrev pub invariant-loop-i : goal.invariant-loop-i
invariant-loop-i l = ((l.at ≤ l.i) × (l.i ≤ l.n)) ×
    ((length l.marks ≡ length l.initial.marks) × (((was : ℕ → Bool) → Swept was l.edges l.initial.marks l.at → Swept was l.edges l.marks l.i) ×
    ((j : ℕ) → l.at ≤ j → j < l.i → row_before l.store (row_at l.edges l.at) (row_at l.edges j) ≡ false)))

abbrev pub decreases-loop-i : goal.decreases-loop-i
decreases-loop-i l = l.n - l.i
