use mathlib.Core.Path.{◌≡◌, refl, sym, ap, subst, ◌∙◌}
use mathlib.Core.Bool.{true}
use Prim.Native.Nat.{◌≤◌, ◌<◌}
use native.Mathlib.Omega.{arith}
use lib.ListN.{length}
use Rattle.base.proofs.Le.{bytes_of}
use Rattle.base.proofs.Tests.{not_both}
use Rattle.record_spec.specs.Reference.{BlockReference}
use Rattle.store_spec.specs.Store.{records_of}
use Rattle.store_spec.specs.Accept.{is_stored}
use Rattle.store_spec.proofs.Loops.{entry_room, record-part}
use Rattle.final_spec.specs.Finality.{blocks_of}
use Rattle.final_block_votes.specs.Walk.{SortedStore}
use Rattle.final_block_votes.proofs.Along.{sorted_count}
use Rattle.index_check.proofs.Agreeing.{agreeing_start, agreeing_end, agreeing_known, no_index}
use Rattle.index_check.proofs.Next.{in_store, next_entry, next_stored, next_voting, next_rooted, next_differs, next_on}
use Rattle.index_check.proofs.parts_agree.Goals as goal

pub returns-then-index-eq0 : goal.returns-then-index-eq0
unfolding SortedStore
returns-then-index-eq0 c = let a = c.args in
    record { value = sym (no_index (blocks_of a.store.now) a.index.now (omega (arith, c.if-index-eq0.true))); known = λ e. absurd (not_both e refl) }

pub loop-i-init : goal.loop-i-init
unfolding SortedStore
loop-i-init c = let a = c.args in
    let q = c.requires.sorted_store.0 in
    let bytes = bytes_of a.store.now (λ i h. omega (arith, c.shared_slice_known-1.given i)) in
    let h : 0 < length a.index.now = omega (arith, c.if-index-eq0.false) in (
      (h, (refl, refl)),
      agreeing_start q.0 a.store.now a.order.now a.index.now a.starts.now q.1 bytes h c.requires.sorted_store.1,
    )

pub overflow_add-from : goal.overflow_add-from
unfolding SortedStore
overflow_add-from c = let a = c.args in
    let q = c.requires.sorted_store.0 in
    let g = c.loop-i in
    let bytes = bytes_of a.store.now (λ i h. omega (
      arith,
      c.shared_slice_known-1.given
          i,
    )) in
    omega (
      arith,
      (entry_room a.store.now g.at (next_entry q.0 a.store.now a.order.now a.index.now a.starts.now q.1 bytes g.starts g.at g.pos g.i g.invariant.1
          (omega (arith, c.loop-i-test.true)))).inside,
      c.well_formed.0,
    )

pub record_end-end-requires : goal.record_end-end-requires
unfolding SortedStore
record_end-end-requires c = let a = c.args in
    let q = c.requires.sorted_store.0 in
    let g = c.loop-i in
    let bytes = bytes_of a.store.now (λ i h. omega (
      arith,
      c.shared_slice_known-1.given
          i,
    )) in
    next_entry q.0 a.store.now a.order.now a.index.now a.starts.now q.1 bytes g.starts g.at g.pos g.i g.invariant.1
    (omega (arith, c.loop-i-test.true))

pub slice_bounds-record_part_end-count : goal.slice_bounds-record_part_end-count
slice_bounds-record_part_end-count c = omega (arith, c.record_end-end.ensures)

pub slice_bounds-record_part_end-start : goal.slice_bounds-record_part_end-start
slice_bounds-record_part_end-start c = omega (arith, c.record_end-end.ensures)

pub slice_bounds-record_part_end-end : goal.slice_bounds-record_part_end-end
unfolding SortedStore
slice_bounds-record_part_end-end c = let a = c.args in
    let q = c.requires.sorted_store.0 in
    let g = c.loop-i in
    let bytes = bytes_of a.store.now (λ i h. omega (
      arith,
      c.shared_slice_known-1.given i,
    )) in
    omega (
      arith,
      (entry_room a.store.now g.at (next_entry q.0 a.store.now a.order.now a.index.now a.starts.now q.1 bytes g.starts g.at g.pos g.i g.invariant.1
          (omega (arith, c.loop-i-test.true)))).inside,
      c.record_end-end.ensures,
    )

pub record_part_end-ended-requires : goal.record_part_end-ended-requires
unfolding SortedStore
record_part_end-ended-requires c = let a = c.args in
    let q = c.requires.sorted_store.0 in
    let g = c.loop-i in
    let bytes = bytes_of a.store.now (λ i h. omega (
      arith,
      c.shared_slice_known-1.given i,
    )) in
    let e = record-part a.store.now g.at c.record_end-end.result c.record_end-end.ensures in record {
      store = q;
      «record» = next_voting q.0 a.store.now a.order.now a.index.now a.starts.now q.1 bytes g.starts g.at g.pos g.i g.invariant.1
          (omega (arith, c.loop-i-test.true)) _ e;
      known = (
        _,
        (
          g.invariant.1.known,
          next_rooted q.0 a.store.now a.order.now a.index.now a.starts.now q.1 bytes g.starts g.at g.pos g.i g.invariant.1
              (omega (arith, c.loop-i-test.true)) _ e,
        ),
      );
      room = (
        omega (
          arith,
          c.requires.room.0,
          g.invariant.0.1.0,
        ),
        omega (
          arith,
          c.requires.room.1,
          g.invariant.0.1.1,
        ),
      );
    }

pub shape_of-starts-in_default : goal.shape_of-starts-in_default
shape_of-starts-in_default c = c.loop-i.invariant.1.long

pub shape_of-rows-in_default : goal.shape_of-rows-in_default
shape_of-rows-in_default c = c.rows-1.given ∙ c.loop-i.invariant.0.1.0

pub shape_of-own-in_default : goal.shape_of-own-in_default
shape_of-own-in_default c = c.own-1.given ∙ c.loop-i.invariant.0.1.1

pub returns-in_default : goal.returns-in_default
unfolding SortedStore
returns-in_default c = let a = c.args in
    let q = c.requires.sorted_store.0 in
    let g = c.loop-i in
    let bytes = bytes_of a.store.now (λ i h. omega (
      arith,
      c.shared_slice_known-1.given i,
    )) in
    let e = record-part a.store.now g.at c.record_end-end.result c.record_end-end.ensures in record {
      value = sym (next_differs q.0 a.store.now a.order.now a.index.now a.starts.now q.1 bytes g.starts g.at g.pos g.i g.invariant.1
          (omega (arith, c.loop-i-test.true)) _ e c.record_part_end-ended.result c.record_part_end-ended.ensures c.in_default.is);
      known = λ e. absurd (not_both e refl);
    }

pub reference_at-requires : goal.reference_at-requires
unfolding SortedStore
reference_at-requires c = let a = c.args in
    let q = c.requires.sorted_store.0 in
    let g = c.loop-i in
    let bytes = bytes_of a.store.now (λ i h. omega (
      arith,
      c.shared_slice_known-1.given i,
    )) in
    next_entry q.0 a.store.now a.order.now a.index.now a.starts.now q.1 bytes g.starts g.at g.pos g.i g.invariant.1
    (omega (arith, c.loop-i-test.true))

pub place_of-place-requires : goal.place_of-place-requires
unfolding SortedStore
place_of-place-requires c = let a = c.args in
    let q = c.requires.sorted_store.0 in
    let g = c.loop-i in
    let bytes = bytes_of a.store.now (λ i h. omega (
      arith,
      c.shared_slice_known-1.given i,
    )) in (
      q,
      subst (λ (r : BlockReference). is_stored (records_of a.store.now) r ≡ true) (sym c.reference_at.ensures)
          (next_stored q.0 a.store.now a.order.now a.index.now a.starts.now q.1 bytes g.starts g.at g.pos g.i g.invariant.1
          (omega (arith, c.loop-i-test.true))),
    )

pub offset_bounds-starts-place : goal.offset_bounds-starts-place
offset_bounds-starts-place c = omega (
  arith,
  c.place_of-place.ensures.0,
  c.well_formed.1.0,
)

pub bounds-starts-place : goal.bounds-starts-place
bounds-starts-place c = omega (
  arith,
  c.place_of-place.ensures.0,
  c.loop-i.invariant.1.known.long,
)

pub loop-i-smaller : goal.loop-i-smaller
unfolding SortedStore
loop-i-smaller c = let a = c.args in
    let q = c.requires.sorted_store.0 in
    let g = c.loop-i in
    let bytes = bytes_of a.store.now (λ i h. omega (
      arith,
      c.shared_slice_known-1.given i,
    )) in
    omega (
      arith,
      in_store q.0 a.store.now a.order.now a.index.now a.starts.now q.1 bytes g.starts g.at g.pos g.i g.invariant.1
          (omega (
            arith,
            c.loop-i-test.true,
          )),
    )

pub loop-i-preserved : goal.loop-i-preserved
unfolding SortedStore
loop-i-preserved c = let a = c.args in
    let q = c.requires.sorted_store.0 in
    let g = c.loop-i in
    let bytes = bytes_of a.store.now (λ i h. omega (
      arith,
      c.shared_slice_known-1.given i,
    )) in
    let e = record-part a.store.now g.at c.record_end-end.result c.record_end-end.ensures in (
      (
        g.invariant.0.0,
        (
          c.rows-1.given ∙ g.invariant.0.1.0,
          c.own-1.given ∙ g.invariant.0.1.1,
        ),
      ),
      next_on q.0 a.store.now a.order.now a.index.now a.starts.now q.1 bytes g.starts g.at g.pos g.i g.invariant.1
          (omega (
            arith,
            c.loop-i-test.true,
          )) _ e c.record_part_end-ended.result c.record_part_end-ended.ensures c.in-Some.next c.in-Some.is c.place_of-place.result
          c.place_of-place.ensures.0 (c.place_of-place.ensures.1 ∙ c.reference_at.ensures) c.record_end-end.result c.record_end-end.ensures,
    )

pub bounds-index-0 : goal.bounds-index-0
bounds-index-0 c = c.loop-i.invariant.0.0

pub shape_of-starts : goal.shape_of-starts
shape_of-starts c = c.loop-i.invariant.1.long

pub shape_of-rows : goal.shape_of-rows
shape_of-rows c = c.loop-i.invariant.0.1.0

pub shape_of-own : goal.shape_of-own
shape_of-own c = c.loop-i.invariant.0.1.1

pub returns : goal.returns
unfolding SortedStore
returns c = let a = c.args in
    let q = c.requires.sorted_store.0 in
    let g = c.loop-i in
    let bytes = bytes_of a.store.now (λ i h. omega (
      arith,
      c.shared_slice_known-1.given i,
    )) in
    let h : length (records_of a.store.now) ≤ g.i = omega (
      arith,
      c.loop-i-test.false,
      ap length q.1.places ∙ sorted_count a.store.now q.1.laid,
    ) in record {
      value = agreeing_end q.0 a.store.now a.order.now a.index.now a.starts.now q.1 bytes g.starts g.at g.pos g.i g.invariant.1 h;
      known = λ e. agreeing_known q.0 a.store.now a.order.now a.index.now a.starts.now q.1 bytes g.starts g.at g.pos g.i
          g.invariant.1 h;
    }
