use Prim.Native.Nat.{ℕ}
use mathlib.Core.Path.{refl, sym, subst, ◌∙◌}
use mathlib.Core.List.{replicate}
use native.Mathlib.Omega.{arith}
use lib.ListN.{length-replicate}
use Rattle.base.proofs.Lists.{zeros_at}
use Rattle.final_readings_spec.specs.Answers.{as_reading}
use Rattle.types.specs.Values.{as_maybe}
use Rattle.final_block_votes.proofs.Sorting.{some_committee}
use Rattle.list_shown.proofs.Reaching.{lent_new}
use Rattle.load_along.specs.Along.{tables, Found}
use Rattle.load_along.proofs.Going.{passing_less}
use Rattle.load_pass.proofs.Listings.{walking_start, walking_end, walking_coming, walking_next}
use Rattle.load_pass.proofs.list_all.Goals as goal
use Rattle.std.specs.Prelude.{Option}
use Rattle.types.specs.declared.TransactionLocatorRange as ranges

pub note_includes-requires : goal.note_includes-requires
note_includes-requires c = let p = c.requires.0 in
    ((some_committee p.0.0, p.1), (omega (arith, p.1), λ x. zeros_at 17408 x))

pub at_start-along-requires : goal.at_start-along-requires
at_start-along-requires c =
    let a = c.args in
    let p = c.requires.0 in (
      (lent_new a.stakes.now a.total a.store.now a.order.now _ p c.note_includes.ensures _ _
          (length-replicate {A = ℕ} 16386 0) (length-replicate {A = ℕ} 3072 0) (replicate {A = ℕ} 1024 0) (length-replicate {A = ℕ} 1024 0)).room,
      λ k. zeros_at
          3072 k,
    )

pub loop-range-init : goal.loop-range-init
loop-range-init c =
    let a = c.args in
    let p = c.requires.0 in
    let st = c.at_start-along in
    let rd = as_reading st.result.wanted.reading in
    let h = st.ensures.held a.stakes.now _ (lent_new a.stakes.now a.total a.store.now a.order.now _ p
    c.note_includes.ensures _ _ (length-replicate {A = ℕ} 16386 0) (length-replicate {A = ℕ} 3072 0)) in
    walking_start rd a.stakes.now a.store.now p.0.0.sound p.0.0.in_order a.places.now _ st.result _ st.ensures.none_passed
    (record { lent = h.lent; shares = h.shares; reads = refl; stands = h.stands })
    (record { edges = st.auto.edges ∙ length-replicate {A = ℕ} 16386 0; marks = st.auto.marks ∙ length-replicate {A = ℕ} 3072 0 }) refl
    (rw (← h.reads) at c.requires.1)

pub slice_bounds-next_stretch-end-in-loop-range : goal.slice_bounds-next_stretch-end-in-loop-range
slice_bounds-next_stretch-end-in-loop-range c = sym c.loop-range.invariant.passing.sized.edges

pub slice_bounds-next_stretch-end-in-loop-range-2 : goal.slice_bounds-next_stretch-end-in-loop-range-2
slice_bounds-next_stretch-end-in-loop-range-2 c = sym c.loop-range.invariant.passing.sized.marks

pub next_stretch-step-requires : goal.next_stretch-step-requires
next_stretch-step-requires c = (_, c.loop-range.invariant.passing.held)

pub shape_of-places-in_default : goal.shape_of-places-in_default
shape_of-places-in_default c = c.loop-range.invariant.past.long

pub returns-in_default : goal.returns-in_default
returns-in_default c =
    let a = c.args in
    let st = c.at_start-along in
    let rd = as_reading st.result.wanted.reading in
    let p = c.requires.0 in
    let h = st.ensures.held a.stakes.now _ (lent_new a.stakes.now a.total a.store.now a.order.now _ p
    c.note_includes.ensures _
    _ (length-replicate {A = ℕ} 16386 0) (length-replicate {A = ℕ} 3072 0)) in
    let l = c.loop-range in
    let n = c.next_stretch-step in
    let last = as_maybe n.result.along.after in
    let f = subst (λ (x : Option ranges.TransactionLocatorRange). Found rd a.stakes.now a.store.now (as_maybe l.along.after) last x) c.in_default.is
    (n.ensures.found rd l.invariant.passing.held) in (
      rw h.reads at (walking_end rd a.stakes.now a.store.now a.places.now l.places (tables a.order.now _ l.edges l.lanes)
          l.along l.read l.n l.invariant last f),
      l.invariant.past,
    )

pub list_stretch-reached-requires : goal.list_stretch-reached-requires
list_stretch-reached-requires c =
    let a = c.args in
    let st = c.at_start-along in
    let rd = as_reading st.result.wanted.reading in
    let l = c.loop-range in
    let n = c.next_stretch-step in
    let last = as_maybe n.result.along.after in
    let f = subst (λ (x : Option ranges.TransactionLocatorRange). Found rd a.stakes.now a.store.now (as_maybe l.along.after) last x) c.in-Some.is
    (n.ensures.found rd l.invariant.passing.held) in (
      walking_coming rd a.stakes.now a.store.now a.places.now l.places (tables a.order.now _ l.edges l.lanes) l.along l.read
          l.n l.invariant c.in-Some.range last f
          c.requires.0.0.0.in_order,
      (
        some_committee c.requires.0.0.0,
        l.invariant.reads,
      ),
    )

pub loop-range-smaller : goal.loop-range-smaller
loop-range-smaller c =
    let a = c.args in
    let st = c.at_start-along in
    let rd = as_reading st.result.wanted.reading in
    let l = c.loop-range in
    let n = c.next_stretch-step in
    let last = as_maybe n.result.along.after in
    let f = subst (λ (x : Option ranges.TransactionLocatorRange). Found rd a.stakes.now a.store.now (as_maybe l.along.after) last x)
    c.in-Some.is (n.ensures.found rd l.invariant.passing.held) in
    passing_less rd a.stakes.now a.store.now (tables a.order.now _ l.edges l.lanes) l.along l.invariant.gone l.invariant.passing
    c.in-Some.range last f n.result.along refl

pub loop-range-preserved : goal.loop-range-preserved
loop-range-preserved c =
    let a = c.args in
    let st = c.at_start-along in
    let rd = as_reading st.result.wanted.reading in
    let l = c.loop-range in
    let n = c.next_stretch-step in
    let last = as_maybe n.result.along.after in
    let f = subst (λ (x : Option ranges.TransactionLocatorRange). Found rd a.stakes.now a.store.now (as_maybe l.along.after) last x)
    c.in-Some.is (n.ensures.found rd l.invariant.passing.held) in
    walking_next rd a.stakes.now a.store.now a.places.now l.places (tables a.order.now _ l.edges l.lanes) l.along l.read l.n
    l.invariant c.in-Some.range last f
    c.requires.0.0.0.in_order _ _ n.result.along
    c.list_stretch-reached.result.read c.list_stretch-reached.result.found refl
    (n.ensures.held rd l.invariant.passing.held)
    (record { edges = n.auto.edges ∙ l.invariant.passing.sized.edges; marks = n.auto.marks ∙ l.invariant.passing.sized.marks })
    c.list_stretch-reached.ensures.0 c.list_stretch-reached.ensures.1
