use mathlib.Core.Path.{◌≡◌}
use Prim.Native.Nat.{ℕ, ◌+◌, ◌-◌, ◌≤◌, ◌<◌}
use lib.ListN.{get_or}
use Rattle.index_two_runs.proofs.same_offsets.Given as goal

abbrev pub invariant-loop-i : goal.invariant-loop-i
invariant-loop-i l = (l.i ≤ 8) × ((j : ℕ) → j < l.i → get_or l.index (l.pos + j) 0 ≡ get_or l.words (l.at + j) 0)
