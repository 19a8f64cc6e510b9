use mathlib.Core.Path.{refl, sym, subst, ◌∙◌}
use mathlib.Core.Option.{some}
use native.Mathlib.Omega.{arith}
use lib.ListN.{length}
use Rattle.types.specs.Values.{as_locator}
use Rattle.list_walk.specs.Walk.{SameWords}
use Rattle.list_lanes.specs.Lanes.{lane_ranges}
use Rattle.list_sweep.specs.Sweep.{edge_locators}
use Rattle.list_sweep.specs.Step.{Moved}
use Rattle.list_marked.specs.Marked.{ShownAll}
use Rattle.list_shown.specs.Shown.{AllAlike}
use Rattle.list_shown.proofs.Reaching.{lent_kept, fewer_follow, here_marks}
use Rattle.list_stretch_end.proofs.Running.{onto_start, never_ends, ends_hidden, ends_other, goes_on_lem, alike_start, alike_next, other_next}
use Rattle.list_stretch_end.proofs.run_on.Goals as goal

pub loop-stop-init : goal.loop-stop-init
unfolding AllAlike
loop-stop-init c = let o = c in
    let a = o.args in
    let r = here_marks (lane_ranges a.course.wanted a.store.now a.order.now) a.store.now a.edges.now a.marks.now a.course.sweep
    o.requires.1.0 in
    let alike = alike_start a.course.wanted a.stakes.now a.store.now a.order.now o.requires.0.room.sorted
    (as_locator a.course.sweep.here) a.certified.now
    (o.requires.1.1 (as_locator a.course.sweep.here) (here_marks (lane_ranges a.course.wanted a.store.now a.order.now) a.store.now
    a.edges.now a.marks.now a.course.sweep o.requires.1.0)).1 a.marks.now o.requires.1.1 in (
      refl,
      (
        (refl, refl),
        (
          o.requires.1.0,
          (
            alike,
            onto_start a.course.wanted a.stakes.now a.store.now a.order.now
                (as_locator a.course.sweep.here) a.marks.now alike r,
          ),
        ),
      ),
    )

pub advance-next-requires : goal.advance-next-requires
advance-next-requires c = let o = c in
    let a = o.args in
    let l = c.loop-stop in (
      (lent_kept a.stakes.now a.course.total a.store.now a.order.now a.sets.now a.edges.now l.edges a.marks.now l.marks
          a.certified.now a.certified.now o.requires.0 l.invariant.0 l.invariant.1.0.0 refl).room,
      l.invariant.1.1.0,
    )

pub shape_of-edges-in_default : goal.shape_of-edges-in_default
shape_of-edges-in_default c = c.advance-next.auto.edges ∙ c.loop-stop.invariant.0

pub shape_of-marks-in_default : goal.shape_of-marks-in_default
shape_of-marks-in_default c = c.advance-next.auto.marks ∙ c.loop-stop.invariant.1.0.0

pub returns-in_default : goal.returns-in_default
unfolding Moved
returns-in_default c = let o = c in
    let a = o.args in
    let l = c.loop-stop in
    absurd (never_ends a.course.wanted a.stakes.now a.store.now a.order.now (as_locator a.course.sweep.here) l.marks
    l.invariant.1.1.1.0 (as_locator l.at.here) l.invariant.1.1.1.1
    (subst (Moved (lane_ranges a.course.wanted a.store.now a.order.now) a.store.now l.marks _ _ (some (as_locator l.at.here)))
    c.in_default.is c.advance-next.ensures))

pub slice_bounds-shown_marks-end : goal.slice_bounds-shown_marks-end
slice_bounds-shown_marks-end c = sym c.loop-stop.invariant.1.0.1

pub shown_marks-shown-requires : goal.shown_marks-shown-requires
shown_marks-shown-requires c = let o = c in
    let a = o.args in
    let l = c.loop-stop in
    (lent_kept a.stakes.now a.course.total a.store.now a.order.now a.sets.now a.edges.now a.edges.now a.marks.now _
    a.certified.now l.other o.requires.0 refl (c.advance-next.auto.marks ∙ l.invariant.1.0.0) (l.invariant.1.0.1 ∙ sym o.requires.0.walk.flagged)).walk

pub shape_of-edges-in_default-shown : goal.shape_of-edges-in_default-shown
shape_of-edges-in_default-shown c = c.advance-next.auto.edges ∙ c.loop-stop.invariant.0

pub shape_of-marks-in_default-shown : goal.shape_of-marks-in_default-shown
shape_of-marks-in_default-shown c = c.advance-next.auto.marks ∙
    c.loop-stop.invariant.1.0.0

pub returns-in_default-shown : goal.returns-in_default-shown
unfolding Moved AllAlike ShownAll
returns-in_default-shown c = let o = c in
    let a = o.args in
    let l = c.loop-stop in
    let m = subst (Moved (lane_ranges a.course.wanted a.store.now a.order.now) a.store.now l.marks _ _ (some (as_locator l.at.here)))
    c.in-Some.is
    c.advance-next.ensures in
    record {
      stands = m.stands;
      ends = ends_hidden a.course.wanted a.stakes.now a.store.now a.order.now (as_locator a.course.sweep.here)
          l.marks l.invariant.1.1.1.0 (as_locator l.at.here) l.invariant.1.1.1.1 _ m.ahead m.quiet
          (o.requires.1.1 (as_locator a.course.sweep.here) (here_marks (lane_ranges a.course.wanted a.store.now a.order.now) a.store.now
          a.edges.now a.marks.now a.course.sweep o.requires.1.0)).0
          ((subst (ShownAll a.course.wanted a.stakes.now a.store.now a.order.now _ _) c.in_default-shown.is
          c.shown_marks-shown.ensures) _ (here_marks (lane_ranges a.course.wanted a.store.now a.order.now) a.store.now _ _
          _ m.stands));
    }

pub slice_bounds-same_words-end : goal.slice_bounds-same_words-end
slice_bounds-same_words-end c = sym (c.shown_marks-shown.auto.certified ∙ c.loop-stop.invariant.1.0.1)

pub same_words-requires : goal.same_words-requires
same_words-requires c = let p = c.requires.0.walk in (
  omega (arith, p.few, p.flagged),
  omega (
    arith,
    p.few,
    c.shown_marks-shown.auto.certified,
    c.loop-stop.invariant.1.0.1,
  ),
)

pub shape_of-edges-then-not-same_words : goal.shape_of-edges-then-not-same_words
shape_of-edges-then-not-same_words c = c.advance-next.auto.edges ∙ c.loop-stop.invariant.0

pub shape_of-marks-then-not-same_words : goal.shape_of-marks-then-not-same_words
shape_of-marks-then-not-same_words c = c.advance-next.auto.marks ∙ c.loop-stop.invariant.1.0.0

pub returns-then-not-same_words : goal.returns-then-not-same_words
unfolding Moved AllAlike
returns-then-not-same_words c = let o = c in
    let a = o.args in
    let l = c.loop-stop in
    let m = subst (Moved (lane_ranges a.course.wanted a.store.now a.order.now) a.store.now l.marks _ _ (some (as_locator l.at.here)))
    c.in-Some.is
    c.advance-next.ensures in
    let all = subst (ShownAll a.course.wanted a.stakes.now a.store.now a.order.now _ _) c.in-Some-shown.is
    c.shown_marks-shown.ensures in
    let different = subst (SameWords a.certified.now _ (length a.order.now)) (c.if-not-same_words.true)
    c.same_words.ensures in
    record {
      stands = m.stands;
      ends = ends_other a.course.wanted a.stakes.now a.store.now a.order.now (as_locator a.course.sweep.here)
          l.marks l.invariant.1.1.1.0 (as_locator l.at.here) l.invariant.1.1.1.1 _ m.ahead m.quiet
          (o.requires.1.1 (as_locator a.course.sweep.here) (here_marks (lane_ranges a.course.wanted a.store.now a.order.now) a.store.now
          a.edges.now a.marks.now a.course.sweep o.requires.1.0)).0
          (other_next a.course.wanted a.stakes.now a.store.now a.order.now o.requires.0.room.sorted (as_locator a.course.sweep.here)
          a.certified.now (o.requires.1.1 (as_locator a.course.sweep.here)
          (here_marks (lane_ranges a.course.wanted a.store.now a.order.now) a.store.now a.edges.now a.marks.now a.course.sweep
          o.requires.1.0)).1 _ _ _ all different _ (here_marks (lane_ranges a.course.wanted a.store.now a.order.now) a.store.now _ _ _
          m.stands));
    }

pub loop-stop-smaller : goal.loop-stop-smaller
unfolding Moved
loop-stop-smaller c = let o = c in
    let a = o.args in
    let l = c.loop-stop in
    let m = subst (Moved (lane_ranges a.course.wanted a.store.now a.order.now) a.store.now l.marks _ _ (some (as_locator l.at.here)))
    c.in-Some.is
    c.advance-next.ensures in
    fewer_follow (as_locator l.at.here) _ (edge_locators (lane_ranges a.course.wanted a.store.now a.order.now)) m.ahead m.edge

pub loop-stop-preserved : goal.loop-stop-preserved
unfolding Moved AllAlike
loop-stop-preserved c = let o = c in
    let a = o.args in
    let l = c.loop-stop in
    let m = subst (Moved (lane_ranges a.course.wanted a.store.now a.order.now) a.store.now l.marks _ _ (some (as_locator l.at.here)))
    c.in-Some.is
    c.advance-next.ensures in
    let all = subst (ShownAll a.course.wanted a.stakes.now a.store.now a.order.now _ _) c.in-Some-shown.is
    c.shown_marks-shown.ensures in
    let same = subst (SameWords a.certified.now _ (length a.order.now)) (c.if-not-same_words.false)
    c.same_words.ensures in
    let alike = alike_next a.course.wanted a.stakes.now a.store.now a.order.now o.requires.0.room.sorted (as_locator a.course.sweep.here)
    a.certified.now (o.requires.1.1 (as_locator a.course.sweep.here)
    (here_marks (lane_ranges a.course.wanted a.store.now a.order.now) a.store.now a.edges.now a.marks.now a.course.sweep
    o.requires.1.0)).1 _ _ _ all same in (
      c.advance-next.auto.edges ∙ l.invariant.0,
      (
        (
          c.advance-next.auto.marks ∙ l.invariant.1.0.0,
          c.shown_marks-shown.auto.certified ∙ l.invariant.1.0.1,
        ),
        (
          m.stands,
          (
            alike,
            goes_on_lem a.course.wanted a.stakes.now a.store.now a.order.now (as_locator a.course.sweep.here)
                l.marks l.invariant.1.1.1.0 (as_locator l.at.here) l.invariant.1.1.1.1 _ m.ahead m.quiet _ alike
                (here_marks (lane_ranges a.course.wanted a.store.now a.order.now) a.store.now _ _ _ m.stands),
          ),
        ),
      ),
    )
