use Prim.Native.Nat.{◌-◌, ◌≤◌}
use Rattle.index_run_order.specs.Apart.{Apart}
use Rattle.index_run_order.proofs.apart_runs.Given as goal

abbrev pub invariant-loop-k : goal.invariant-loop-k
invariant-loop-k l = (1 ≤ l.k) × Apart l.index l.pos l.k
