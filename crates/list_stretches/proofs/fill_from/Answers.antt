use mathlib.Core.Path.{refl, sym, subst, ◌∙◌}
use native.Mathlib.Omega.{arith}
use Rattle.types.specs.Values.{as_locator}
use Rattle.list_stretch_bytes.specs.Answers.{as_stretches}
use Rattle.list_lanes.specs.Lanes.{lane_ranges}
use Rattle.list_shown.specs.Shown.{AllAlike, NextFound}
use Rattle.list_stretches.specs.Listed.{FilledFrom}
use Rattle.list_shown.proofs.Reaching.{lent_kept, lent_for, here_marks}
use Rattle.list_stretches.proofs.Filling.{offset_of, doing_start, done_last, done_more, doing_more}
use Rattle.list_stretches.proofs.fill_from.Goals as goal

pub loop-f-init : goal.loop-f-init
loop-f-init c = let o = c in
    let a = o.args in (
      refl,
      (
        (refl, refl),
        (
          (omega arith, refl),
          (
            o.requires.1,
            doing_start a.course.wanted a.stakes.now a.store.now a.out.now
                (as_locator a.course.sweep.here),
          ),
        ),
      ),
    )

pub slice_bounds-next_shown-end : goal.slice_bounds-next_shown-end
slice_bounds-next_shown-end c = sym c.loop-f.invariant.1.0.1

pub next_shown-next-requires : goal.next_shown-next-requires
next_shown-next-requires c = let o = c in
    let a = o.args in
    let l = c.loop-f in (
      lent_kept a.stakes.now a.course.total a.store.now a.order.now a.sets.now a.edges.now l.edges a.marks.now l.marks
          l.certified l.certified (o.requires.0 l.certified l.invariant.1.0.1) l.invariant.0 l.invariant.1.0.0 refl,
      l.invariant.1.1.1.0,
    )

pub shape_of-edges-in_default : goal.shape_of-edges-in_default
shape_of-edges-in_default c = c.next_shown-next.auto.edges ∙ c.loop-f.invariant.0

pub shape_of-marks-in_default : goal.shape_of-marks-in_default
shape_of-marks-in_default c = c.next_shown-next.auto.marks ∙ c.loop-f.invariant.1.0.0

pub shape_of-out-in_default : goal.shape_of-out-in_default
shape_of-out-in_default c = c.loop-f.invariant.1.1.0.1

pub returns-in_default : goal.returns-in_default
unfolding FilledFrom as_stretches NextFound
returns-in_default c = let o = c in
    let a = o.args in
    let l = c.loop-f in
    done_last a.course.wanted a.stakes.now a.store.now a.out.now (as_locator a.course.sweep.here) (as_locator l.sweep.here) l.out
    l.n l.invariant.1.1.1.1 (subst (NextFound a.course.wanted a.stakes.now a.store.now a.order.now (as_locator l.sweep.here) _ _ _)
    c.in_default.is c.next_shown-next.ensures)

pub shape_of-edges-then-n-room : goal.shape_of-edges-then-n-room
shape_of-edges-then-n-room c = c.next_shown-next.auto.edges ∙ c.loop-f.invariant.0

pub shape_of-marks-then-n-room : goal.shape_of-marks-then-n-room
shape_of-marks-then-n-room c = c.next_shown-next.auto.marks ∙ c.loop-f.invariant.1.0.0

pub shape_of-out-then-n-room : goal.shape_of-out-then-n-room
shape_of-out-then-n-room c = c.loop-f.invariant.1.1.0.1

pub returns-then-n-room : goal.returns-then-n-room
unfolding FilledFrom as_stretches NextFound
returns-then-n-room c = let o = c in
    let a = o.args in
    let l = c.loop-f in
    let f = subst (NextFound a.course.wanted a.stakes.now a.store.now a.order.now (as_locator l.sweep.here) _ _ _)
    c.in-Some.is c.next_shown-next.ensures in
    done_more a.course.wanted a.stakes.now a.store.now a.out.now (as_locator a.course.sweep.here) (as_locator l.sweep.here) l.out
    l.n l.invariant.1.1.1.1 _ f.is c.if-n-room.true

pub stake_of-stake-requires : goal.stake_of-stake-requires
stake_of-stake-requires c = (c.requires.0
    c.loop-f.certified
    c.loop-f.invariant.1.0.1).walk.sorted.sound

pub slice_bounds-run_on-end : goal.slice_bounds-run_on-end
slice_bounds-run_on-end c = sym (c.next_shown-next.auto.certified ∙ c.loop-f.invariant.1.0.1)

pub run_on-sweep-requires : goal.run_on-sweep-requires
unfolding NextFound
run_on-sweep-requires c = let o = c in
    let a = o.args in
    let l = c.loop-f in
    let f = subst (NextFound a.course.wanted a.stakes.now a.store.now a.order.now (as_locator l.sweep.here) _ _ _)
    c.in-Some.is
    c.next_shown-next.ensures in (
      lent_for a.stakes.now a.course.total a.store.now a.order.now a.sets.now a.edges.now _ a.marks.now _ o.requires.0
          (c.next_shown-next.auto.edges ∙ l.invariant.0) (c.next_shown-next.auto.marks ∙ l.invariant.1.0.0) _
          (c.next_shown-next.auto.certified ∙ l.invariant.1.0.1),
      (f.stands, f.alike),
    )

pub write_stretch-requires : goal.write_stretch-requires
write_stretch-requires c = let l = c.loop-f in
    omega (
      arith,
      l.invariant.1.1.0.0,
      l.invariant.1.1.0.1,
      c.if-n-room.false,
    )

pub overflow_add-n : goal.overflow_add-n
overflow_add-n c = let l = c.loop-f in
    omega (
      arith,
      l.invariant.1.1.0.0,
      c.if-n-room.false,
      c.well_formed,
    )

pub loop-f-smaller : goal.loop-f-smaller
loop-f-smaller c = let l = c.loop-f in
    omega (
      arith,
      l.invariant.1.1.0.0,
      c.if-n-room.false,
    )

pub loop-f-preserved : goal.loop-f-preserved
unfolding NextFound AllAlike
loop-f-preserved c = let o = c in
    let a = o.args in
    let l = c.loop-f in
    let f = subst (NextFound a.course.wanted a.stakes.now a.store.now a.order.now (as_locator l.sweep.here) _ _ _)
    c.in-Some.is c.next_shown-next.ensures in
    let r = c.run_on-sweep.ensures in
    let wr = c.write_stretch.ensures in (
      c.run_on-sweep.auto.edges ∙ c.next_shown-next.auto.edges ∙ l.invariant.0,
      (
        (
          c.run_on-sweep.auto.marks ∙ c.next_shown-next.auto.marks ∙ l.invariant.1.0.0,
          c.next_shown-next.auto.certified ∙ l.invariant.1.0.1,
        ),
        (
          (
            omega (
              arith,
              l.invariant.1.1.0.0,
              c.if-n-room.false,
            ),
            c.write_stretch.auto.out ∙ l.invariant.1.1.0.1,
          ),
          (
            r.stands,
            doing_more a.course.wanted a.stakes.now a.store.now a.out.now (as_locator a.course.sweep.here)
                (as_locator l.sweep.here) l.out l.n l.invariant.1.1.1.1 _ f.is
                (f.alike _ (here_marks (lane_ranges a.course.wanted a.store.now a.order.now) a.store.now _ _ _ f.stands)).0
                (omega (
                  arith,
                  l.invariant.1.1.0.0,
                  c.if-n-room.false,
                )) c.in-Some.f.found f.right.0
                (as_locator c.run_on-sweep.result.here) r.ends
                c.run_on-sweep.result.here.offset
                c.stake_of-stake.result.0
                (offset_of c.run_on-sweep.result.here)
                c.stake_of-stake.ensures _ wr,
          ),
        ),
      ),
    )
