use Prim.Native.Nat.{ℕ}
use mathlib.Core.Path.{sym, subst, ◌∙◌}
use native.Mathlib.Omega.{arith}
use lib.ListN.{length-replicate}
use Rattle.base.proofs.Le.{bytes_of}
use Rattle.base.proofs.Lists.{zeros_at}
use Rattle.final_block_votes.proofs.Sorting.{some_committee}
use Rattle.types.specs.Values.{as_maybe}
use Rattle.list_lanes.specs.Lanes.{lane_ranges}
use Rattle.list_sweep_start.specs.Begin.{Begun}
use Rattle.list_shown.specs.Shown.{NextFound}
use Rattle.list_shown.proofs.Reaching.{lent_new, begun_reaching, begun_none, shown_offset}
use Rattle.list_shown.proofs.next_from.Goals as goal

pub begin-requires : goal.begin-requires
begin-requires c = let o = c in (
  record { sorted = some_committee o.requires.0.0.0; wide = length-replicate {A = ℕ} 16386 0; long = length-replicate {A = ℕ} 3072 0 },
  λ k. zeros_at 3072
      k,
)

pub returns-in_err-sweep : goal.returns-in_err-sweep
unfolding Begun as_maybe
returns-in_err-sweep c = let o = c in
    let a = o.args in
    let bare = subst (Begun (lane_ranges a.wanted a.store.now a.order.now) a.store.now _ _ (as_maybe a.after)) c.in_err-sweep.was
    c.begin.ensures in
    rw c.from_residual.ensures (sym (begun_none a.wanted a.stakes.now a.store.now a.order.now (some_committee o.requires.0.0.0) o.requires.0.1
    (as_maybe a.after) bare))

pub slice_bounds-next_shown-end : goal.slice_bounds-next_shown-end
slice_bounds-next_shown-end c = sym (c.begin.auto.edges ∙ length-replicate {A = ℕ} 16386 0)

pub slice_bounds-next_shown-end-2 : goal.slice_bounds-next_shown-end-2
slice_bounds-next_shown-end-2 c = sym (c.begin.auto.marks ∙ length-replicate {A = ℕ} 3072
    0)

pub next_shown-requires : goal.next_shown-requires
unfolding Begun
next_shown-requires c = let o = c in
    let a = o.args in
    let b = subst (Begun (lane_ranges a.wanted a.store.now a.order.now) a.store.now _ _ (as_maybe a.after))
    c.in_ok-sweep.was c.begin.ensures in (
      lent_new a.stakes.now a.total a.store.now a.order.now a.sets.now o.requires.0 o.requires.1 _ _
          (c.begin.auto.edges ∙ length-replicate {A = ℕ} 16386 0)
          (c.begin.auto.marks ∙ length-replicate {A = ℕ} 3072 0) _
          (length-replicate {A = ℕ} 1024 0),
      b.stands,
    )

pub returns-in_err-found : goal.returns-in_err-found
unfolding Begun NextFound as_maybe
returns-in_err-found c = let o = c in
    let a = o.args in
    let bytes = bytes_of a.store.now (λ j h. omega (
      arith,
      c.shared_slice_known-2-1.given j,
    )) in
    let b = subst (Begun (lane_ranges a.wanted a.store.now a.order.now) a.store.now _ _ (as_maybe a.after))
    c.in_ok-sweep.was
    c.begin.ensures in
    let r = begun_reaching a.wanted a.stakes.now a.store.now a.order.now (some_committee o.requires.0.0.0) o.requires.0.1 (as_maybe a.after)
    _ _ _ b (shown_offset a.wanted a.stakes.now a.store.now bytes o.requires.0.0.0.in_order) in
    rw c.from_residual-in_err-found.ensures (sym ((subst (NextFound a.wanted a.stakes.now a.store.now a.order.now _ _ _ _) c.in_err-found.was
    c.next_shown.ensures) (as_maybe a.after) r))

pub returns : goal.returns
unfolding Begun NextFound as_maybe
returns c = let o = c in
    let a = o.args in
    let bytes = bytes_of a.store.now (λ j h. omega (
      arith,
      c.shared_slice_known-2-1.given j,
    )) in
    let b = subst (Begun (lane_ranges a.wanted a.store.now a.order.now) a.store.now _ _ (as_maybe a.after))
    c.in_ok-sweep.was
    c.begin.ensures in
    let r = begun_reaching a.wanted a.stakes.now a.store.now a.order.now (some_committee o.requires.0.0.0) o.requires.0.1 (as_maybe a.after)
    _ _ _ b (shown_offset a.wanted a.stakes.now a.store.now bytes o.requires.0.0.0.in_order) in
    sym ((subst (NextFound a.wanted a.stakes.now a.store.now a.order.now _ _ _ _) c.in_ok-found.was
    c.next_shown.ensures).is (as_maybe a.after) r)
