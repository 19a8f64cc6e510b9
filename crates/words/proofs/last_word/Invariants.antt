use Prim.Native.Nat.{◌≤◌, ◌-◌}
use mathlib.Core.Path.{◌≡◌}
use lib.ListN.{length, drop}
use Rattle.base.specs.Le.{le_number}
use Rattle.words.proofs.last_word.Given as goal

abbrev pub invariant-loop-p : goal.invariant-loop-p
invariant-loop-p l = (l.at ≤ l.p) × ((l.p ≤ length l.s) × (l.x ≡ le_number (drop l.p l.s)))

abbrev pub decreases-loop-p : goal.decreases-loop-p
decreases-loop-p l = l.p
