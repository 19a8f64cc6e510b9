use Prim.Native.Nat.{◌≤◌, ◌-◌}
use Rattle.pending_words.specs.Step.{voted_in}
use Rattle.pending_words.proofs.Moves.{Mapped}
use Rattle.pending_votes.proofs.vote_items.Given as goal

abbrev pub invariant-loop-k : goal.invariant-loop-k
invariant-loop-k l = (l.k ≤ l.n) × Mapped (voted_in l.stake.0 l.a.0 l.p l.start l.end) l.initial.t l.k l.t
