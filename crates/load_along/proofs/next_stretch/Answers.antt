use mathlib.Core.Path.{refl, sym, subst, ◌∙◌}
use native.Mathlib.Omega.{arith}
use Rattle.types.specs.Values.{as_locator, as_range, as_maybe}
use Rattle.record_spec.specs.Reference.{locator, new_range}
use Rattle.list_lanes.specs.Lanes.{lane_ranges}
use Rattle.list_shown.specs.Shown.{AllAlike, NextFound}
use Rattle.list_shown.proofs.Reaching.{here_marks, lent_for}
use Rattle.load_along.specs.Along.{tables, HeldAt}
use Rattle.load_along.proofs.Sweeping.{held_at, held_end, found_ended, ends_later, reaching_on, found_stretch}
use Rattle.load_along.proofs.next_stretch.Goals as goal

pub returns-in_default : goal.returns-in_default
returns-in_default c = let a = c.args in
    record {
      held = λ reading h. h;
      found = λ reading h. found_ended a.stakes.now a.store.now (tables a.order.now a.sets.now a.edges.now a.marks.now) a.along
          reading h (held_end a.stakes.now a.store.now (tables a.order.now a.sets.now a.edges.now a.marks.now) a.along
          c.in_default.is reading h) _;
    }

pub next_shown-next-requires : goal.next_shown-next-requires
next_shown-next-requires c = let a = c.args in
    let h = c.requires in (
      h.1.lent _ refl,
      (held_at a.stakes.now a.store.now (tables a.order.now a.sets.now a.edges.now a.marks.now) a.along _
          c.in-Some.is h.0 h.1).0,
    )

pub returns-in_default-next : goal.returns-in_default-next
unfolding HeldAt NextFound
returns-in_default-next c = let a = c.args in
    let n = c.next_shown-next in
    let st = held_at a.stakes.now a.store.now (tables a.order.now a.sets.now a.edges.now a.marks.now) a.along _
    c.in-Some.is
    c.requires.0 c.requires.1 in
    let none_left = subst (NextFound a.along.wanted a.stakes.now a.store.now a.order.now _ _ _ _) c.in_default-next.is n.ensures
    (as_maybe a.along.after) st.1 in
    record {
      held = λ reading h.
          record {
            lent = lent_for a.stakes.now a.along.total a.store.now a.order.now a.sets.now a.edges.now _ a.marks.now _ h.lent
                n.auto.edges n.auto.marks;
            shares = h.shares;
            reads = h.reads;
            stands = none_left;
          };
      found = λ reading h. found_ended a.stakes.now a.store.now (tables a.order.now a.sets.now a.edges.now a.marks.now) a.along
          reading h none_left _;
    }

pub slice_bounds-run_on-end : goal.slice_bounds-run_on-end
slice_bounds-run_on-end c = sym c.next_shown-next.auto.certified

pub run_on-end-requires : goal.run_on-end-requires
unfolding NextFound
run_on-end-requires c = let a = c.args in
    let n = c.next_shown-next in
    let f = subst (NextFound a.along.wanted a.stakes.now a.store.now a.order.now _ _ _ _)
    c.in-Some-next.is n.ensures in (
      lent_for a.stakes.now a.along.total a.store.now a.order.now a.sets.now a.edges.now _ a.marks.now _
          c.requires.1.lent n.auto.edges n.auto.marks _
          n.auto.certified,
      (f.stands, f.alike),
    )

pub overflow_sub-last : goal.overflow_sub-last
unfolding NextFound AllAlike as_locator locator
overflow_sub-last c = let a = c.args in
    let n = c.next_shown-next in
    let r = c.run_on-end in
    let st = held_at a.stakes.now a.store.now (tables a.order.now a.sets.now a.edges.now a.marks.now) a.along _
    c.in-Some.is
    c.requires.0
    c.requires.1 in
    let f = subst (NextFound a.along.wanted a.stakes.now a.store.now a.order.now _ _ _ _)
    c.in-Some-next.is n.ensures in
    let v = c.in-Some-next.f.sweep in
    let l = as_locator v.here in
    let shown = (f.alike l (here_marks (lane_ranges a.along.wanted a.store.now a.order.now) a.store.now _ _ v f.stands)).0 in
    let is = f.is (as_maybe a.along.after) st.1 in
    omega (
      arith,
      ends_later a.stakes.now a.store.now (tables a.order.now a.sets.now a.edges.now a.marks.now) a.along l shown is
          (as_locator r.result.here) r.ensures.ends,
    )

pub shape_of-edges : goal.shape_of-edges
shape_of-edges c = c.run_on-end.auto.edges ∙ c.next_shown-next.auto.edges

pub shape_of-marks : goal.shape_of-marks
shape_of-marks c = c.run_on-end.auto.marks ∙ c.next_shown-next.auto.marks

pub returns : goal.returns
unfolding NextFound AllAlike HeldAt as_maybe as_locator locator as_range new_range
returns c = let a = c.args in
    let n = c.next_shown-next in
    let r = c.run_on-end in
    let st = held_at a.stakes.now a.store.now (tables a.order.now a.sets.now a.edges.now a.marks.now) a.along _
    c.in-Some.is
    c.requires.0
    c.requires.1 in
    let f = subst (NextFound a.along.wanted a.stakes.now a.store.now a.order.now _ _ _ _)
    c.in-Some-next.is n.ensures in
    let v = c.in-Some-next.f.sweep in
    let l = as_locator v.here in
    let shown = (f.alike l (here_marks (lane_ranges a.along.wanted a.store.now a.order.now) a.store.now _ _ v f.stands)).0 in
    let is = f.is (as_maybe a.along.after) st.1 in
    record {
      held = λ reading h.
          record {
            lent = lent_for a.stakes.now a.along.total a.store.now a.order.now a.sets.now a.edges.now _ a.marks.now _ h.lent
                (r.auto.edges ∙ n.auto.edges) (r.auto.marks ∙ n.auto.marks);
            shares = h.shares;
            reads = h.reads;
            stands = (
              r.ensures.stands,
              reaching_on a.stakes.now a.store.now (tables a.order.now a.sets.now a.edges.now a.marks.now)
                  a.along l shown is (as_locator r.result.here) r.ensures.ends _ refl,
            );
          };
      found = λ reading h. found_stretch a.stakes.now a.store.now (tables a.order.now a.sets.now a.edges.now a.marks.now) a.along l
          shown is (as_locator r.result.here) r.ensures.ends reading h _ refl _ refl;
    }
