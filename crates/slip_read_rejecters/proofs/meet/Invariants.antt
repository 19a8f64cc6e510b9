use mathlib.Core.Path.{◌≡◌}
use mathlib.Core.Bool.{false, ◌&&◌}
use Prim.Native.Nat.{ℕ, ◌-◌, ◌<◌}
use Rattle.committee_set.specs.AuthoritySet.{member}
use Rattle.slip_read_rejecters.proofs.meet.Given as goal

abbrev pub invariant-loop-i : goal.invariant-loop-i
invariant-loop-i l = (j : ℕ) → j < l.i → member l.a j && member l.b j ≡ false
