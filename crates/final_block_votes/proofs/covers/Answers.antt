use Prim.Native.Nat.{◌≤◌}
use native.Mathlib.Omega.{arith}
use Rattle.final_block_votes.proofs.Reading.{covers_other, covers_early, covers_from}
use mathlib.Core.Path.{sym, ◌∙◌}
use Rattle.types.specs.Values.{as_locator, as_range}
use Rattle.record_spec.specs.Reference.{new_range, locator}
use Rattle.final_block_votes.proofs.covers.Goals as goal

pub returns-then-not-same_reference : goal.returns-then-not-same_reference
unfolding as_locator as_range locator new_range
returns-then-not-same_reference c = let a = c.args in
    sym (covers_other (as_range a.range) (as_locator a.locator) (sym c.same_reference.ensures ∙ c.if-not-same_reference.true))

pub returns-then-locator-range : goal.returns-then-locator-range
unfolding as_locator as_range locator new_range
returns-then-locator-range c = let a = c.args in
    sym (covers_early (as_range a.range) (as_locator a.locator) c.if-locator-range.true)

pub returns : goal.returns
unfolding as_locator as_range locator new_range
returns c = let a = c.args in
    let h : a.range.offset_start_inclusive ≤ a.locator.offset = omega (arith, c.if-locator-range.false) in
    sym (covers_from (as_range a.range) (as_locator a.locator)
    (sym c.same_reference.ensures ∙ c.if-not-same_reference.false) h)
