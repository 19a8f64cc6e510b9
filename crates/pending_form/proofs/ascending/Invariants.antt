use mathlib.Core.Bool.{true}
use mathlib.Core.Path.{◌≡◌}
use Prim.Native.Nat.{ℕ, ◌≤◌, ◌<◌, ◌-◌}
use Rattle.pending_spec.specs.Table.{items_of}
use Rattle.pending_words.specs.Step.{stands_at}
use Rattle.pending_form.proofs.ascending.Given as goal

abbrev pub invariant-loop-k : goal.invariant-loop-k
invariant-loop-k l = (l.k ≤ l.n) × ((j : ℕ) → j < l.k → stands_at (items_of l.t) j ≡ true)
