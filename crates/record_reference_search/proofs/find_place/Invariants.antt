use Prim.Native.Nat.{◌-◌}
use mathlib.Core.Path.{◌≡◌}
use mathlib.Core.Bool.{true}
use lib.ListN.{length}
use Rattle.base.proofs.Narrowed.{Narrowed}
use Rattle.record_spec.specs.Reference.{reference_before}
use Rattle.types.specs.Values.{as_reference}
use Rattle.record_reference_search.specs.Places.{reference_from}
use Rattle.record_reference_search.proofs.find_place.Given as goal

abbrev pub invariant-loop-low : goal.invariant-loop-low
invariant-loop-low l = Narrowed (length l.order) (λ j. reference_before (reference_from l.s l.order l.skip j) (as_reference l.block) ≡ true)
    (λ j. reference_before (as_reference l.block) (reference_from l.s l.order l.skip j) ≡ true) l.low l.high

abbrev pub decreases-loop-low : goal.decreases-loop-low
decreases-loop-low l = l.high - l.low
