use mathlib.Core.Path.{refl, sym, ◌∙◌}
use native.Mathlib.Omega.{arith}
use lib.ListN.{length-set}
use Rattle.types.specs.Values.{as_locator}
use Rattle.list_lanes.specs.Lanes.{lane_ranges}
use Rattle.list_sweep.specs.Sweep.{MarksAt}
use Rattle.list_sweep_start.proofs.Covering.{marked_more}
use Rattle.list_sweep_start.proofs.mark_lanes.Goals as goal

pub loop-k-init : goal.loop-k-init
loop-k-init c = (omega arith, ((refl, refl), (refl, λ k h. absurd (omega arith))))

pub slice_bounds-lane_says-end : goal.slice_bounds-lane_says-end
slice_bounds-lane_says-end c = sym c.loop-k.invariant.1.0.0

pub slice_bounds-lane_says-end-in-loop-k : goal.slice_bounds-lane_says-end-in-loop-k
slice_bounds-lane_says-end-in-loop-k c = sym c.loop-k.invariant.1.0.1

pub lane_says-yes-requires : goal.lane_says-yes-requires
lane_says-yes-requires c = let p = c.requires in
    let v = c.loop-k.invariant in
    (p.0, (omega (arith, v.1.0.0), omega (arith, v.1.0.1)))

pub bounds-marks-k : goal.bounds-marks-k
bounds-marks-k c = omega (
  arith,
  c.requires.1,
  c.loop-k.invariant.1.1.0,
  c.loop-k-test.true,
)

pub loop-k-smaller : goal.loop-k-smaller
loop-k-smaller c = omega arith

pub loop-k-preserved : goal.loop-k-preserved
loop-k-preserved c = let a = c.args in
    let l = c.loop-k in
    let t = c.lane_says-yes in (
      omega arith,
      (
        (t.auto.rows ∙ l.invariant.1.0.0, t.auto.spare ∙ l.invariant.1.0.1),
        (
          length-set l.marks _ _ ∙ l.invariant.1.1.0,
          marked_more (lane_ranges a.wanted a.store.now a.order.now) l.marks (as_locator a.locator)
              l.k c.flag.result t.result (omega (
                arith,
                c.requires.1,
                l.invariant.1.1.0,
                c.loop-k-test.true,
              )) l.invariant.1.1.1 t.ensures c.flag.ensures,
        ),
      ),
    )

pub shape_of-marks : goal.shape_of-marks
shape_of-marks c = c.loop-k.invariant.1.1.0

pub returns : goal.returns
unfolding MarksAt
returns c = λ k h. c.loop-k.invariant.1.1.1 k (omega (arith, c.loop-k-test.false))
