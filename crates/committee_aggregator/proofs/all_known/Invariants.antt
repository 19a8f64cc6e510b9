use Rattle.committee_set.specs.AuthoritySet.{member}
use lib.ListN.{length}
use Prim.Native.Nat.{ℕ, ◌≤◌, ◌<◌, ◌-◌}
use mathlib.Core.Bool.{false}
use mathlib.Core.Path.{◌≡◌}
use Rattle.committee_aggregator.proofs.all_known.Given as goal

abbrev pub invariant-loop-i : goal.invariant-loop-i
invariant-loop-i l = (length l.stakes ≤ l.i) × ((a : ℕ) → length l.stakes ≤ a → a < l.i → member l.votes a ≡ false)
