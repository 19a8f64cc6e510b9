use Prim.Native.Nat.{◌≤◌}
use Rattle.pending_words.specs.Step.{MovedUp}
use Rattle.pending_words.proofs.move_up.Given as goal

abbrev pub invariant-loop-k : goal.invariant-loop-k
invariant-loop-k l = (l.i ≤ l.k) × (l.k ≤ l.n) × MovedUp l.initial.t l.k l.n l.t

abbrev pub decreases-loop-k : goal.decreases-loop-k
decreases-loop-k l = l.k
