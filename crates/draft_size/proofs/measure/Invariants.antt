use mathlib.Core.Path.{◌≡◌}
use Prim.Native.Nat.{◌*◌, ◌-◌, ◌≤◌}
use lib.ListN.{length}
use Rattle.draft_joined.specs.Step.{joined_from}
use Rattle.draft_size.specs.Step.{measured_on}
use Rattle.draft_size.proofs.measure.Given as goal

abbrev pub invariant-loop-at : goal.invariant-loop-at
invariant-loop-at l =
    (l.at ≤ length l.s) × ((l.count ≤ 1024) × ((l.bytes ≤ 65538 * l.count)
    × (measured_on 0 0 (joined_from l.s 0) ≡ measured_on l.count l.bytes (joined_from l.s l.at))))

abbrev pub decreases-loop-at : goal.decreases-loop-at
decreases-loop-at l = length l.s - l.at
