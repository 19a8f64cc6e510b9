use Prim.Native.Nat.{◌%◌}
use mathlib.Core.Path.{sym, ◌∙◌}
use native.Mathlib.Omega.{arith}
use lib.ListN.{get_or}
use Rattle.base.specs.Lists.{any_of}
use Rattle.base.proofs.Le.{bytes_of}
use Rattle.store_spec.specs.Entry.{block_at}
use Rattle.store_spec.proofs.Loops.{entry_room, record-part}
use Rattle.final_spec.proofs.Fits.{block_fits}
use Rattle.final_block_votes.specs.Walk.{SortedStore, block_at_place}
use Rattle.final_block_votes.proofs.Sorting.{place_entry, place_stored}
use Rattle.list_block_spans.proofs.Fits.{votes_fit}
use Rattle.types.specs.Values.{as_maybe}
use Rattle.list_own_ranges.specs.Own.{Roomy}
use Rattle.list_reach.proofs.Reach.{within_own}
use Rattle.list_lanes.proofs.Lanes.{unwanted_lane, lane_past, lane_of}
use Rattle.list_window.proofs.Entering.{recorded}
use Rattle.list_sweep_start.proofs.lane_says.Goals as goal

pub returns-then-not-wants_lane : goal.returns-then-not-wants_lane
unfolding any_of
returns-then-not-wants_lane c = let a = c.args in
    rw (unwanted_lane a.wanted a.store.now a.order.now a.lane (sym c.wants_lane.ensures ∙ c.if-not-wants_lane.true))

pub returns-then-order-place : goal.returns-then-order-place
unfolding any_of
returns-then-order-place c = let a = c.args in
    rw (lane_past a.wanted a.store.now a.order.now a.lane c.if-order-place.true)

pub overflow_add-start : goal.overflow_add-start
overflow_add-start c = let o = c in
    let a = o.args in
    omega (
      arith,
      (entry_room a.store.now _ (place_entry a.store.now a.order.now o.requires.0 (a.lane % 1024)
          (omega (arith, c.if-order-place.false)))).inside,
      o.well_formed,
    )

pub record_end-end-requires : goal.record_end-end-requires
record_end-end-requires c = let o = c in
    let a = o.args in
    place_entry a.store.now a.order.now o.requires.0 (a.lane % 1024) (omega (arith, c.if-order-place.false))

pub slice_bounds-own_ranges-end : goal.slice_bounds-own_ranges-end
slice_bounds-own_ranges-end c = let o = c in
    let a = o.args in
    omega (
      arith,
      (entry_room a.store.now _ (place_entry a.store.now a.order.now o.requires.0 (a.lane % 1024)
          (omega (arith, c.if-order-place.false)))).inside,
      c.record_end-end.ensures,
    )

pub own_ranges-m-requires : goal.own_ranges-m-requires
unfolding SortedStore block_at_place block_at Roomy
own_ranges-m-requires c = let o = c in
    let a = o.args in
    let bytes = bytes_of a.store.now (λ j h. omega (
      arith,
      c.shared_slice_known-1.given j,
    )) in
    let stored = place_stored a.store.now a.order.now o.requires.0 (a.lane % 1024)
    (omega (arith, c.if-order-place.false)) in
    let few = (block_fits a.store.now bytes _ stored).few_statements in
    let part = record-part a.store.now (get_or a.order.now (a.lane % 1024) 0) c.record_end-end.result
    c.record_end-end.ensures in (
      recorded a.store.now _ c.record_end-end.result
          (place_entry a.store.now a.order.now o.requires.0 (a.lane % 1024)
          (omega (arith, c.if-order-place.false)))
          (votes_fit o.requires.0.0 a.store.now bytes o.requires.0.1.in_order _ stored) c.record_end-end.ensures,
      (rw part (omega (arith, few, o.requires.1.0)), rw part (omega (arith, few, o.requires.1.1))),
    )

pub any_covers-requires : goal.any_covers-requires
unfolding block_at_place block_at
any_covers-requires c = let o = c in
    let a = o.args in
    let bytes = bytes_of a.store.now (λ j h. omega (
      arith,
      c.shared_slice_known-1.given j,
    )) in
    let stored = place_stored a.store.now a.order.now o.requires.0 (a.lane % 1024)
    (omega (arith, c.if-order-place.false)) in
    let few = (block_fits a.store.now bytes _ stored).few_statements in
    let part = record-part a.store.now (get_or a.order.now (a.lane % 1024) 0)
    c.record_end-end.result
    c.record_end-end.ensures in
    let w = rw part at c.own_ranges-m.ensures in
    record { room = omega (arith, w.few, w.long, few, o.requires.1.0); proper = w.proper }

pub returns : goal.returns
unfolding block_at as_maybe
returns c = let o = c in
    let a = o.args in
    let part = record-part a.store.now (get_or a.order.now (a.lane % 1024) 0)
    c.record_end-end.result
    c.record_end-end.ensures in
    c.any_covers.ensures ∙ c.own_ranges-m.ensures.covering _ (within_own _) ∙ sym
    (rw (
      lane_of a.wanted a.store.now a.order.now a.lane
          (sym c.wants_lane.ensures
          ∙ c.if-not-wants_lane.false)
          (omega (arith, c.if-order-place.false)),
      ← c.lane_kind-kind.ensures,
      ← part,
    ))
