use Prim.Native.Nat.{◌-◌}
use Rattle.index_runs.specs.Values.{as_run}
use Rattle.index_merge.proofs.Merged.{Growing}
use Rattle.index_merge.proofs.whole_run.Given as goal

abbrev pub invariant-loop-y : goal.invariant-loop-y
invariant-loop-y l = Growing l.own l.initial.mine l.mine l.index l.n l.initial.cursors l.cursors (as_run l.first) l.end

abbrev pub decreases-loop-y : goal.decreases-loop-y
decreases-loop-y l = 18446744073709551616 - l.end
