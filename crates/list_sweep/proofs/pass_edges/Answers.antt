use mathlib.Core.Path.{refl, sym, ap, ◌∙◌}
use native.Mathlib.Omega.{arith}
use lib.ListN.{length, length-set}
use Rattle.list_row_sort.specs.Rows.{Inside}
use Rattle.list_edge_rows.specs.Edges.{place_of}
use Rattle.list_sweep.proofs.Sweeping.{swept_on, low_more}
use Rattle.list_sweep.proofs.pass_edges.Goals as goal

pub loop-i-init : goal.loop-i-init
loop-i-init c = ((omega arith, omega (arith, c.requires.below)), (refl, ((λ was w. w), (λ j h k. absurd (omega arith)))))

pub row_before-requires : goal.row_before-requires
unfolding Inside
row_before-requires c = let p = c.requires in
    record {
      i_in_bounds = (omega (arith, p.room, p.below), omega (arith, p.room, c.loop-i-test.true));
      i_in_bounds_2 =
          (p.inside _ p.below, p.inside _ c.loop-i-test.true);
    }

pub shape_of-marks-then-row_before : goal.shape_of-marks-then-row_before
shape_of-marks-then-row_before c = c.loop-i.invariant.1.0

pub returns-then-row_before : goal.returns-then-row_before
returns-then-row_before c = let v = c.loop-i.invariant in
    record { most = v.0.1; long = v.1.0; swept = v.1.1.0; low = v.1.1.1; high = λ h. sym c.row_before.ensures ∙ c.if-row_before.true }

pub pass_edge-requires : goal.pass_edge-requires
unfolding place_of
pass_edge-requires c = let p = c.requires in (
  omega (arith, p.room, c.loop-i-test.true),
  omega
      (arith, p.lanes _ c.loop-i-test.true, p.long, c.loop-i.invariant.1.0),
)

pub loop-i-smaller : goal.loop-i-smaller
loop-i-smaller c = omega arith

pub loop-i-preserved : goal.loop-i-preserved
loop-i-preserved c = let o = c in
    let p = o.requires in
    let l = c.loop-i in
    let h = c.loop-i-test.true in (
      (omega (arith, l.invariant.0.0), omega arith),
      (
        ap length c.pass_edge.ensures ∙ length-set l.marks _ _ ∙ l.invariant.1.0,
        (
          (λ was w. rw c.pass_edge.ensures (swept_on was o.args.edges.now l.marks l.i (l.invariant.1.1.0 was w)
              (l.invariant.1.0 ∙ p.long) (p.lanes l.i h))),
          (λ j u v. low_more o.args.store.now o.args.edges.now o.args.at l.i l.invariant.1.1.1
              (sym c.row_before.ensures ∙ c.if-row_before.false) j u v),
        ),
      ),
    )

pub shape_of-marks : goal.shape_of-marks
shape_of-marks c = c.loop-i.invariant.1.0

pub returns : goal.returns
returns c = let v = c.loop-i.invariant in
    record { most = v.0.1; long = v.1.0; swept = v.1.1.0; low = v.1.1.1; high = λ h. absurd (omega (arith, c.loop-i-test.false)) }
