use Rattle.committee_set.specs.AuthoritySet.{stake_from, stake_of}
use lib.ListN.{length, drop}
use Prim.Native.Nat.{◌+◌, ◌≤◌, ◌-◌}
use mathlib.Core.Path.{◌≡◌}
use Rattle.committee_set.proofs.stake_of.Given as goal

abbrev pub invariant-loop-i : goal.invariant-loop-i
invariant-loop-i l = (l.i ≤ length l.stakes) × (l.stake + stake_from l.i (drop l.i l.stakes) l.votes ≡ stake_of l.stakes l.votes)
