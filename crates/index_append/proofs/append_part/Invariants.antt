use Prim.Native.Nat.{◌-◌}
use Rattle.index_runs.specs.Values.{as_maybe}
use Rattle.index_append.proofs.Appending.{Appending}
use Rattle.index_append.proofs.append_part.Given as goal

abbrev pub invariant-loop-k : goal.invariant-loop-k
invariant-loop-k l = Appending l.own l.initial.mine l.mine l.initial.index l.index l.used l.count l.n l.initial.cursors l.cursors
    (as_maybe l.next) l.k

abbrev pub decreases-loop-k : goal.decreases-loop-k
decreases-loop-k l = l.count - l.k
