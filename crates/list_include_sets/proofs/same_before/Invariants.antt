use Prim.Native.Nat.{ℕ, ◌+◌, ◌-◌, ◌*◌, ◌≤◌, ◌<◌}
use mathlib.Core.Path.{◌≡◌}
use lib.ListN.{get_or}
use Rattle.list_include_sets.proofs.same_before.Given as goal

abbrev pub invariant-loop-w : goal.invariant-loop-w
invariant-loop-w l = (0 < l.k) × ((l.w ≤ 16) × ((x : ℕ) → x < l.w → get_or l.sets (17 * l.k + x) 0 ≡ get_or l.sets (17 * (l.k - 1) + x) 0))
