use Prim.Native.Nat.{◌-◌, ◌≤◌}
use Rattle.index_alike.specs.Alike.{Shared}
use Rattle.index_alike.proofs.shared_runs.Given as goal

abbrev pub invariant-loop-k : goal.invariant-loop-k
invariant-loop-k l = (l.k ≤ l.most) × Shared l.index l.cursors l.n l.pos l.k
