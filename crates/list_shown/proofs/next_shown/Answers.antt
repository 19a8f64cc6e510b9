use mathlib.Core.Path.{refl, subst, ◌∙◌}
use mathlib.Core.Option.{some}
use Rattle.types.specs.Values.{as_locator}
use Rattle.list_lanes.specs.Lanes.{lane_ranges}
use Rattle.list_sweep.specs.Sweep.{edge_locators}
use Rattle.list_sweep.specs.Step.{Moved}
use Rattle.list_marked.specs.Marked.{ShownAll}
use Rattle.list_shown.specs.Shown.{NextFound}
use Rattle.list_shown.proofs.Reaching.{lent_kept, fewer_follow, shown_here, hidden_on, hidden_end}
use Rattle.list_shown.proofs.next_shown.Goals as goal

pub loop-found-init : goal.loop-found-init
loop-found-init c = (refl, ((refl, refl), (c.requires.1, λ last q. q)))

pub shown_marks-shown-requires : goal.shown_marks-shown-requires
shown_marks-shown-requires c = let o = c in
    let a = o.args in
    let l = c.loop-found in
    (lent_kept a.stakes.now a.course.total a.store.now a.order.now a.sets.now a.edges.now l.edges a.marks.now l.marks
    a.certified.now l.certified o.requires.0 l.invariant.0 l.invariant.1.0.0 l.invariant.1.0.1).walk

pub shape_of-edges-in-Some : goal.shape_of-edges-in-Some
shape_of-edges-in-Some c = c.loop-found.invariant.0

pub shape_of-marks-in-Some : goal.shape_of-marks-in-Some
shape_of-marks-in-Some c = c.loop-found.invariant.1.0.0

pub shape_of-certified-in-Some : goal.shape_of-certified-in-Some
shape_of-certified-in-Some c = c.shown_marks-shown.auto.certified ∙ c.loop-found.invariant.1.0.1

pub returns-in-Some : goal.returns-in-Some
unfolding NextFound
returns-in-Some c = let a = c.args in
    let l = c.loop-found in
    shown_here a.course.wanted a.stakes.now a.store.now a.order.now (as_locator a.course.sweep.here) l.edges l.marks _ l.at _
    l.invariant.1.1.0 l.invariant.1.1.1 (subst (ShownAll a.course.wanted a.stakes.now a.store.now a.order.now l.marks _)
    c.in-Some.is c.shown_marks-shown.ensures)

pub advance-requires : goal.advance-requires
advance-requires c = let o = c in
    let a = o.args in
    let l = c.loop-found in (
      (lent_kept a.stakes.now a.course.total a.store.now a.order.now a.sets.now a.edges.now l.edges a.marks.now l.marks
          a.certified.now l.certified o.requires.0 l.invariant.0 l.invariant.1.0.0 l.invariant.1.0.1).room,
      l.invariant.1.1.0,
    )

pub shape_of-edges-in_err-at : goal.shape_of-edges-in_err-at
shape_of-edges-in_err-at c = c.advance.auto.edges ∙ c.loop-found.invariant.0

pub shape_of-marks-in_err-at : goal.shape_of-marks-in_err-at
shape_of-marks-in_err-at c = c.advance.auto.marks ∙ c.loop-found.invariant.1.0.0

pub shape_of-certified-in_err-at : goal.shape_of-certified-in_err-at
shape_of-certified-in_err-at c = c.shown_marks-shown.auto.certified ∙ c.loop-found.invariant.1.0.1

pub returns-in_err-at : goal.returns-in_err-at
unfolding NextFound Moved
returns-in_err-at c = let a = c.args in
    let l = c.loop-found in
    rw c.from_residual.ensures (hidden_end a.course.wanted a.stakes.now a.store.now a.order.now (as_locator a.course.sweep.here) l.marks _ l.at
    l.invariant.1.1.1 (subst (ShownAll a.course.wanted a.stakes.now a.store.now a.order.now l.marks _)
    c.in_default.is
    c.shown_marks-shown.ensures)
    (subst (Moved (lane_ranges a.course.wanted a.store.now a.order.now) a.store.now l.marks _ _ (some (as_locator l.at.here)))
    c.in_err-at.was c.advance.ensures))

pub loop-found-smaller : goal.loop-found-smaller
unfolding Moved
loop-found-smaller c = let a = c.args in
    let l = c.loop-found in
    let m = subst (Moved (lane_ranges a.course.wanted a.store.now a.order.now) a.store.now l.marks _ _ (some (as_locator l.at.here)))
    c.in_ok-at.was c.advance.ensures in
    fewer_follow (as_locator l.at.here) _ (edge_locators (lane_ranges a.course.wanted a.store.now a.order.now)) m.ahead m.edge

pub loop-found-preserved : goal.loop-found-preserved
unfolding Moved
loop-found-preserved c = let a = c.args in
    let l = c.loop-found in
    let m = subst (Moved (lane_ranges a.course.wanted a.store.now a.order.now) a.store.now l.marks _ _ (some (as_locator l.at.here)))
    c.in_ok-at.was c.advance.ensures in (
      c.advance.auto.edges ∙ l.invariant.0,
      (
        (
          c.advance.auto.marks ∙ l.invariant.1.0.0,
          c.shown_marks-shown.auto.certified ∙ l.invariant.1.0.1,
        ),
        (
          m.stands,
          hidden_on a.course.wanted a.stakes.now a.store.now a.order.now (as_locator a.course.sweep.here) l.marks _ l.at
              l.invariant.1.1.1 (subst (ShownAll a.course.wanted a.stakes.now a.store.now a.order.now l.marks _)
              c.in_default.is
              c.shown_marks-shown.ensures) _ _ _
              m,
        ),
      ),
    )
