use native.Mathlib.Omega.{arith}
use Rattle.record_spec.specs.Reference.{new_range}
use Rattle.types.specs.Values.{as_range}
use Rattle.load_mark_words.proofs.Left.{stretch_past, stretch_taken}
use Rattle.load_mark_words.proofs.clear_mark.Goals as goal

pub returns-then-mark-range : goal.returns-then-mark-range
unfolding as_range new_range
returns-then-mark-range c = let a = c.args in stretch_past a.store.now a.order.now
    c.requires.0.0 (as_range a.range) a.marks.now
    c.place_of-place.result c.place_of-place.ensures.0
    c.requires.1 c.place_of-place.ensures.1
    (λ o e h k. omega (arith, c.if-mark-range.true))

pub returns-then-range-mark : goal.returns-then-range-mark
unfolding as_range new_range
returns-then-range-mark c = let a = c.args in stretch_past a.store.now a.order.now
    c.requires.0.0 (as_range a.range) a.marks.now
    c.place_of-place.result c.place_of-place.ensures.0
    c.requires.1
    c.place_of-place.ensures.1 (λ o e h k. omega (arith, c.if-range-mark.true))

pub returns : goal.returns
unfolding as_range new_range
returns c = let a = c.args in stretch_taken a.store.now a.order.now
    c.requires.0.0 (as_range a.range) a.marks.now
    c.place_of-place.result c.place_of-place.ensures.0
    c.requires.1
    c.place_of-place.ensures.1 (omega (arith, c.if-mark-range.false)) (omega (arith, c.if-range-mark.false))
