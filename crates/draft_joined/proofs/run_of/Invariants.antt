use mathlib.Core.Path.{◌≡◌}
use mathlib.Core.Bool.{true}
use Prim.Native.Nat.{◌+◌, ◌-◌, ◌≤◌}
use lib.ListN.{length}
use Rattle.record_spec.specs.Reference.{new_range, one_range}
use Rattle.types.specs.Values.{as_reference, as_locator}
use Rattle.draft_spec.specs.Joining.{run, right_piece}
use Rattle.draft_joined.specs.Step.{joined_after}
use Rattle.draft_joined.proofs.run_of.Given as goal

abbrev pub invariant-loop-other : goal.invariant-loop-other
invariant-loop-other l =
    (l.from ≤ l.at)
    × ((l.at ≤ length l.s)
    × ((right_piece (run (new_range (as_reference l.first.block) l.first.offset (l.last + 1))) ≡ true)
    × (joined_after (one_range (as_locator l.first)) l.s l.from ≡ joined_after (new_range (as_reference l.first.block) l.first.offset (l.last + 1)) l.s l.at)))

abbrev pub decreases-loop-other : goal.decreases-loop-other
decreases-loop-other l = length l.s - l.at
