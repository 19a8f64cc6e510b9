use mathlib.Core.Path.{◌≡◌}
use Prim.Native.Nat.{◌+◌, ◌≤◌, ◌-◌}
use lib.ListN.{length, drop}
use Rattle.base.specs.Lists.{sum_of}
use Rattle.committee.proofs.total_stake.Given as goal

abbrev pub invariant-loop-stake : goal.invariant-loop-stake
invariant-loop-stake l = (l.stake-index ≤ length l.stakes)
    × ((l.total ≤ 9223372036854775807) × (l.total + sum_of (drop l.stake-index l.stakes) ≡ sum_of l.stakes))
