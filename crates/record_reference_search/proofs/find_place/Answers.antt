use Prim.Native.Nat.{◌<◌, ◌-◌, ◌+◌, ◌/◌}
use mathlib.Core.Path.{◌≡◌, sym, ◌∙◌}
use mathlib.Core.Bool.{true}
use native.Mathlib.Omega.{arith}
use lib.ListN.{length}
use Rattle.base.proofs.Narrowed.{narrowed_start, narrowed_up, narrowed_down}
use Rattle.record_spec.specs.Reference.{BlockReference, reference_before}
use Rattle.record_spec.proofs.References.{reference_same, reference_trans}
use Rattle.types.specs.Values.{as_reference}
use Rattle.types.proofs.Words.{compared_less, compared_equal, compared_greater}
use Rattle.record_reference_search.specs.Places.{reference_from, FoundAmong}
use Rattle.record_reference_search.proofs.find_place.Goals as goal

pub loop-low-init : goal.loop-low-init
loop-low-init c = narrowed_start _ _ _

pub overflow_add-at : goal.overflow_add-at
overflow_add-at c =
    let l = c.loop-low in
    omega (arith, c.requires.inside (l.low + (l.high - l.low) / 2) (omega (arith, l.invariant.inside)))

pub read_reference-requires : goal.read_reference-requires
read_reference-requires c =
    let l = c.loop-low in
    c.requires.inside (l.low + (l.high - l.low) / 2) (omega (arith, l.invariant.inside))

pub returns-in-Equal : goal.returns-in-Equal
unfolding FoundAmong reference_from
returns-in-Equal c =
    let a = c.args in
    let l = c.loop-low in
    let r : BlockReference = as_reference a.block in
    let x : BlockReference = as_reference c.read_reference.result in (
      omega (arith, l.invariant.inside),
      sym c.read_reference.ensures ∙ reference_same x r
          (compared_equal x r (sym c.in-Equal.ensures)),
    )

pub loop-low-preserved-in-Less : goal.loop-low-preserved-in-Less
unfolding reference_from
loop-low-preserved-in-Less c =
    let a = c.args in
    let l = c.loop-low in
    let m = l.low + (l.high - l.low) / 2 in
    let s = a.s.now in
    let o = a.order.now in
    let k = a.skip in
    let r : BlockReference = as_reference a.block in
    let x : BlockReference = as_reference c.read_reference.result in
    let inside : m < length o = omega (arith, l.invariant.inside) in
    let low : reference_before (reference_from s o k m) r ≡ true = rw c.read_reference.ensures at
    (compared_less x r (sym c.in-Less.ensures)).1 in
    narrowed_up (length o) _ _ l.low l.high m (λ i (h : i < m). reference_trans (reference_from s o k i) (reference_from s o k m) r
    (c.requires.rises i m h inside) low) low (omega arith) l.invariant

pub loop-low-preserved : goal.loop-low-preserved
unfolding reference_from
loop-low-preserved c =
    let a = c.args in
    let l = c.loop-low in
    let m = l.low + (l.high - l.low) / 2 in
    let s = a.s.now in
    let o = a.order.now in
    let k = a.skip in
    let r : BlockReference = as_reference a.block in
    let x : BlockReference = as_reference c.read_reference.result in
    let inside : m < length o = omega (arith, l.invariant.inside) in
    let high : reference_before r (reference_from s o k m) ≡ true = rw c.read_reference.ensures at
    (compared_greater x r (sym c.in-Greater.ensures)).1 in
    narrowed_down (length o) _ _ l.low l.high m (λ i (h : m < i) (n : i < length o). reference_trans r (reference_from s o k m) (reference_from s o k i)
    high (c.requires.rises m i h n)) high (omega arith) (omega arith) l.invariant

pub returns : goal.returns
unfolding FoundAmong
returns c =
    let l = c.loop-low in
    let e : l.high ≡ l.low = omega (arith, l.invariant.order) in
    record { most = omega (arith, l.invariant.inside); below = l.invariant.below; above = rw e at l.invariant.above }
