use Prim.Native.Nat.{◌+◌, ◌-◌, ◌*◌, ◌/◌, ◌^◌, ◌≤◌, ◌<◌}
use mathlib.Core.Path.{◌≡◌}
use lib.ListN.{get_or}
use Rattle.list_include_sets.specs.Sets.{gathered_to}
use Rattle.list_include_sets.proofs.gather_word.Given as goal

abbrev pub invariant-loop-w : goal.invariant-loop-w
invariant-loop-w l = (l.b ≤ 64) × ((l.w ≡ get_or l.sets (17 * l.k + l.i) 0 / 2 ^ l.b) ×
    ((get_or l.sets (17 * l.k + l.i) 0 < 18446744073709551616) × (l.found ≡ gathered_to l.sets l.memo l.k (64 * l.i + l.b))))

abbrev pub decreases-loop-w : goal.decreases-loop-w
decreases-loop-w l = 64 - l.b
