use Prim.Native.Nat.{◌≤◌, ◌-◌}
use Rattle.pending_words.specs.Step.{Cleared}
use Rattle.pending_words.proofs.clear.Given as goal

abbrev pub invariant-loop-k : goal.invariant-loop-k
invariant-loop-k l = (l.i ≤ l.k) × (l.k ≤ l.n) × Cleared l.initial.t l.i l.k l.t
