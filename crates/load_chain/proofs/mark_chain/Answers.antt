use mathlib.Core.Path.{refl, subst, ◌∙◌}
use Prim.Native.Nat.{◌+◌}
use native.Mathlib.Omega.{arith}
use lib.ListN.{length-set}
use borrow.Author.Rules.{rules}
use Rattle.types.specs.Values.{as_locator}
use Rattle.record_spec.specs.Reference.{locator}
use Rattle.load_chain.specs.Chain.{Seen, Collected}
use Rattle.load_chain.specs.declared.Sight.{Sight}
use Rattle.load_chain.proofs.Chains.{collecting_start, collecting_never, collected, collecting_on}
use Rattle.load_chain.proofs.mark_chain.Goals as goal

pub loop-place-init : goal.loop-place-init
loop-place-init c = let a = c.args in (
  collecting_start a.store.now a.order.now (as_locator a.locator) a.marks.now
      c.requires.1.0 c.requires.1.1,
  refl,
)

pub look-seen-requires : goal.look-seen-requires
look-seen-requires c = c.requires.0

pub shape_of-marks-in-No : goal.shape_of-marks-in-No
shape_of-marks-in-No c = c.loop-place.invariant.1

pub returns-in-No : goal.returns-in-No
unfolding Seen Collected
returns-in-No c =
    let a = c.args in
    let l = c.loop-place in
    let f = subst (λ (x : Sight). Seen a.store.now a.order.now (as_locator l.change) x) c.in-No.is c.look-seen.ensures in
    collecting_never a.store.now a.order.now (as_locator a.locator) l.marks (as_locator l.change) l.invariant.0 f

pub overflow_add-marks : goal.overflow_add-marks
unfolding Seen as_locator locator
overflow_add-marks c =
    let a = c.args in
    let l = c.loop-place in
    let f = subst (λ (x : Sight). Seen a.store.now a.order.now (as_locator l.change) x) c.in-Alone.is
    c.look-seen.ensures in
    omega (arith, f.0.small)

pub offset_bounds-marks-place : goal.offset_bounds-marks-place
unfolding Seen
offset_bounds-marks-place c =
    let a = c.args in
    let l = c.loop-place in
    let f = subst (λ (x : Sight). Seen a.store.now a.order.now (as_locator l.change) x) c.in-Alone.is
    c.look-seen.ensures in
    record { fits = omega (arith, f.0.inside, l.invariant.0.fits, l.invariant.1, c.well_formed) }

pub bounds-marks-place : goal.bounds-marks-place
unfolding Seen
bounds-marks-place c =
    let a = c.args in
    let l = c.loop-place in
    let f = subst (λ (x : Sight). Seen a.store.now a.order.now (as_locator l.change) x) c.in-Alone.is
    c.look-seen.ensures in
    omega (arith, f.0.inside, l.invariant.0.fits)

pub shape_of-marks-in-Alone : goal.shape_of-marks-in-Alone
shape_of-marks-in-Alone c = length-set c.loop-place.marks c.in-Alone.place
    (c.loop-place.change.offset + 1) ∙ c.loop-place.invariant.1

pub returns-in-Alone : goal.returns-in-Alone
unfolding Seen Collected as_locator locator
returns-in-Alone c =
    let a = c.args in
    let l = c.loop-place in
    let f = subst (λ (x : Sight). Seen a.store.now a.order.now (as_locator l.change) x) c.in-Alone.is
    c.look-seen.ensures in
    collected a.store.now a.order.now (as_locator a.locator) l.marks (as_locator l.change) l.invariant.0 c.in-Alone.place
    f.0 f.1

pub overflow_add-marks-in-Needs : goal.overflow_add-marks-in-Needs
unfolding Seen as_locator locator
overflow_add-marks-in-Needs c =
    let a = c.args in
    let l = c.loop-place in
    let f = subst (λ (x : Sight). Seen a.store.now a.order.now (as_locator l.change) x) c.in-Needs.is
    c.look-seen.ensures in
    omega (arith, f.0.small)

pub offset_bounds-marks-place-in-Needs : goal.offset_bounds-marks-place-in-Needs
unfolding Seen
offset_bounds-marks-place-in-Needs c =
    let a = c.args in
    let l = c.loop-place in
    let f = subst (λ (x : Sight). Seen a.store.now a.order.now (as_locator l.change) x) c.in-Needs.is
    c.look-seen.ensures in
    record { fits = omega (arith, f.0.inside, l.invariant.0.fits, l.invariant.1, c.well_formed) }

pub bounds-marks-place-in-Needs : goal.bounds-marks-place-in-Needs
unfolding Seen
bounds-marks-place-in-Needs c =
    let a = c.args in
    let l = c.loop-place in
    let f = subst (λ (x : Sight). Seen a.store.now a.order.now (as_locator l.change) x) c.in-Needs.is
    c.look-seen.ensures in
    omega (arith, f.0.inside, l.invariant.0.fits)

pub loop-place-smaller : goal.loop-place-smaller
unfolding Seen
loop-place-smaller c =
    let a = c.args in
    let l = c.loop-place in
    let f = subst (λ (x : Sight). Seen a.store.now a.order.now (as_locator l.change) x) c.in-Needs.is
    c.look-seen.ensures in
    f.1

pub loop-place-preserved : goal.loop-place-preserved
unfolding Seen as_locator locator
loop-place-preserved c =
    let a = c.args in
    let l = c.loop-place in
    let f = subst (λ (x : Sight). Seen a.store.now a.order.now (as_locator l.change) x) c.in-Needs.is
    c.look-seen.ensures in (
      collecting_on a.store.now a.order.now (as_locator a.locator) l.marks (as_locator l.change) l.invariant.0
          c.in-Needs.place f.0 (as_locator c.in-Needs.earlier) f.1 f.2
          (length-set l.marks c.in-Needs.place (l.change.offset + 1)),
      length-set l.marks c.in-Needs.place
          (l.change.offset + 1) ∙ l.invariant.1,
    )
