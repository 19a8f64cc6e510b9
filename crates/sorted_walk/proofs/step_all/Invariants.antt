use Prim.Native.Nat.{◌-◌, ◌≤◌}
use Rattle.sorted_walk.proofs.Answering.{Answering}
use Rattle.sorted_walk.proofs.step_all.Given as goal

abbrev pub invariant-loop-k : goal.invariant-loop-k
invariant-loop-k l = Answering l.stakes l.store l.locators l.replies l.k l.at l.p × (l.k ≤ l.steps)
