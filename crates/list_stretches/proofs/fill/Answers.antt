use Prim.Native.Nat.{ℕ}
use mathlib.Core.Path.{sym, subst, ◌∙◌}
use native.Mathlib.Omega.{arith}
use lib.ListN.{length-replicate}
use Rattle.base.proofs.Le.{bytes_of}
use Rattle.base.proofs.Lists.{zeros_at}
use Rattle.final_block_votes.proofs.Sorting.{some_committee}
use Rattle.types.specs.Values.{as_maybe}
use Rattle.list_stretch_bytes.specs.Answers.{as_stretches}
use Rattle.list_lanes.specs.Lanes.{lane_ranges}
use Rattle.list_sweep_start.specs.Begin.{Begun}
use Rattle.list_stretches.specs.Listed.{FilledFrom}
use Rattle.list_shown.proofs.Reaching.{lent_new, begun_reaching, begun_none, shown_offset}
use Rattle.list_stretches.proofs.Filling.{begun_last}
use Rattle.list_stretches.proofs.fill.Goals as goal

named_result_value_out_after : {P0 P1 : Type 0} → P0 × P1 → record { result_value : P0; out_after : P1 }
named_result_value_out_after p = record { result_value = p.0; out_after = p.1 }

pub begin-begun-requires : goal.begin-begun-requires
begin-begun-requires c = let o = c in (
  record { sorted = some_committee o.requires.0.0.0; wide = length-replicate {A = ℕ} 16386 0; long = length-replicate {A = ℕ} 3072 0 },
  λ k. zeros_at 3072
      k,
)

pub returns-in_default : goal.returns-in_default
unfolding Begun as_stretches
returns-in_default c = named_result_value_out_after (let o = c in
    let a = o.args in
    let bare = subst (Begun (lane_ranges a.wanted a.store.now a.order.now) a.store.now _ _ (as_maybe a.after)) c.in_default.is
    c.begin-begun.ensures in
    begun_last a.wanted a.stakes.now a.store.now a.out.now (as_maybe a.after)
    (begun_none a.wanted a.stakes.now a.store.now a.order.now (some_committee o.requires.0.0.0) o.requires.0.1 (as_maybe a.after) bare))

pub slice_bounds-fill_from-end : goal.slice_bounds-fill_from-end
slice_bounds-fill_from-end c = sym (c.begin-begun.auto.edges ∙ length-replicate {A = ℕ} 16386 0)

pub slice_bounds-fill_from-end-2 : goal.slice_bounds-fill_from-end-2
slice_bounds-fill_from-end-2 c = sym (c.begin-begun.auto.marks ∙ length-replicate {A = ℕ} 3072 0)

pub fill_from-requires : goal.fill_from-requires
unfolding Begun
fill_from-requires c = let o = c in
    let a = o.args in
    let b = subst (Begun (lane_ranges a.wanted a.store.now a.order.now) a.store.now _ _ (as_maybe a.after))
    c.in-Some.is c.begin-begun.ensures in (
      lent_new a.stakes.now a.total a.store.now a.order.now a.sets.now o.requires.0 o.requires.1 _ _
          (c.begin-begun.auto.edges ∙ length-replicate {A = ℕ} 16386 0)
          (c.begin-begun.auto.marks ∙ length-replicate {A = ℕ} 3072 0),
      b.stands,
    )

pub returns : goal.returns
unfolding Begun FilledFrom
returns c = named_result_value_out_after (let o = c in
    let a = o.args in
    let bytes = bytes_of a.store.now (λ j h. omega (
      arith,
      c.shared_slice_known-2-1.given j,
    )) in
    let b = subst (Begun (lane_ranges a.wanted a.store.now a.order.now) a.store.now _ _ (as_maybe a.after))
    c.in-Some.is
    c.begin-begun.ensures in
    c.fill_from.ensures (as_maybe a.after)
    (begun_reaching a.wanted a.stakes.now a.store.now a.order.now (some_committee o.requires.0.0.0) o.requires.0.1 (as_maybe a.after) _
    _ _ b (shown_offset a.wanted a.stakes.now a.store.now bytes o.requires.0.0.0.in_order)))
