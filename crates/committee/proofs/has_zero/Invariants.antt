use mathlib.Core.Path.{◌≡◌}
use Prim.Native.Nat.{◌≤◌, ◌-◌}
use lib.Dec.{eqb}
use lib.ListN.{length, drop}
use Rattle.base.specs.Lists.{any_of}
use Rattle.committee.proofs.has_zero.Given as goal

abbrev pub invariant-loop-stake : goal.invariant-loop-stake
invariant-loop-stake l = (l.stake-index ≤ length l.stakes) × (any_of (λ s. eqb s 0) l.stakes ≡ any_of (λ s. eqb s 0) (drop l.stake-index l.stakes))
