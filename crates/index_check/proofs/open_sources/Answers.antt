use mathlib.Core.Path.{◌≡◌, refl, sym, subst, ◌∙◌}
use mathlib.Core.Bool.{true}
use Prim.Native.Nat.{◌+◌, ◌*◌, ◌<◌}
use lib.ListN.{length, get_or, set, length-set}
use Rattle.base.proofs.Le.{bytes_of}
use Rattle.base.proofs.Places.{in_place}
use Rattle.record_spec.specs.Reference.{BlockReference}
use Rattle.record_spec.specs.Record.{block_in, no_reference}
use Rattle.record_spec.proofs.Records.{block_of_fits, block_of_lem}
use Rattle.store_spec.specs.Store.{records_of}
use Rattle.store_spec.specs.Accept.{is_stored}
use Rattle.index_check.proofs.Opening.{Opening, opening_start, include_stands, opening_on, opening_end}
use native.Mathlib.Omega.{arith}
use Rattle.index_check.proofs.open_sources.Goals as goal

pub include_count-count-requires : goal.include_count-count-requires
include_count-count-requires c = c.requires.«record»

pub loop-j-init : goal.loop-j-init
loop-j-init c = (
  refl,
  (
    omega arith,
    λ bs k r. opening_start c.args.store.now c.args.order.now c.args.index.now c.args.starts.now bs (block_in c.args.rec.now) c.args.cursors.now,
  ),
)

pub include-requires : goal.include-requires
include-requires c = let h : c.loop-j.j < length (block_in c.args.rec.now).includes = omega (arith, c.loop-j-test.true, c.include_count-count.ensures) in
    (c.requires.«record», h)

pub place_of-place-requires : goal.place_of-place-requires
place_of-place-requires c =
    let h : c.loop-j.j < length (block_in c.args.rec.now).includes = omega (arith, c.loop-j-test.true, c.include_count-count.ensures) in (
      c.requires.store,
      subst (λ (r : BlockReference). is_stored (records_of c.args.store.now) r ≡ true) (sym c.include.ensures)
          (c.requires.known.1.1.stored (get_or (block_in c.args.rec.now).includes c.loop-j.j no_reference) (in_place no_reference (block_in
          c.args.rec.now).includes c.loop-j.j h)),
    )

pub bounds-starts-place : goal.bounds-starts-place
bounds-starts-place c = omega (
  arith,
  c.place_of-place.ensures.0,
  c.requires.known.1.0.long,
)

pub overflow_add-cursors : goal.overflow_add-cursors
overflow_add-cursors c = let h : c.loop-j.j < length (block_in c.args.rec.now).includes = omega (
  arith,
  c.loop-j-test.true,
  c.include_count-count.ensures,
) in
    omega (
      arith,
      (include_stands c.args.store.now c.args.order.now c.args.index.now c.args.starts.now c.requires.known.0 (block_in c.args.rec.now) c.requires.known.1.0
          c.requires.known.1.1 c.loop-j.j c.place_of-place.result h c.place_of-place.ensures.0 (c.place_of-place.ensures.1 ∙ c.include.ensures)).inside,
      c.well_formed.1.1.1.0,
    )

pub overflow_mul-cursors : goal.overflow_mul-cursors
overflow_mul-cursors c = omega (
  arith,
  c.loop-j-test.true,
  c.include_count-count.ensures,
  (block_of_fits
      c.args.rec.now (block_in c.args.rec.now) (bytes_of c.args.rec.now (λ i h. omega (
        arith,
        c.shared_slice_known-5-1.given i,
      ))) (block_of_lem c.args.rec.now c.requires.«record»)).few_includes,
)

pub offset_bounds-cursors-j : goal.offset_bounds-cursors-j
offset_bounds-cursors-j c = omega (
  arith,
  c.loop-j-test.true,
  c.include_count-count.ensures,
  (block_of_fits c.args.rec.now (block_in c.args.rec.now) (bytes_of c.args.rec.now (λ i h. omega (
    arith,
    c.shared_slice_known-5-1.given i,
  ))) (block_of_lem c.args.rec.now c.requires.«record»)).few_includes,
)

pub bounds-cursors-j : goal.bounds-cursors-j
bounds-cursors-j c = let h : c.loop-j.j < length (block_in c.args.rec.now).includes = omega (
  arith,
  c.loop-j-test.true,
  c.include_count-count.ensures,
) in
    omega (
      arith,
      c.loop-j.invariant.0,
      c.requires.room,
      (block_of_fits c.args.rec.now (block_in c.args.rec.now) (bytes_of c.args.rec.now (λ i h. omega (
        arith,
        c.shared_slice_known-5-1.given i,
      ))) (block_of_lem c.args.rec.now c.requires.«record»)).few_includes,
    )

pub offset_bounds-index-start : goal.offset_bounds-index-start
offset_bounds-index-start c = let h : c.loop-j.j < length (block_in c.args.rec.now).includes = omega (
  arith,
  c.loop-j-test.true,
  c.include_count-count.ensures,
) in
    omega (
      arith,
      (include_stands c.args.store.now c.args.order.now c.args.index.now c.args.starts.now c.requires.known.0 (block_in c.args.rec.now) c.requires.known.1.0
          c.requires.known.1.1 c.loop-j.j c.place_of-place.result h c.place_of-place.ensures.0 (c.place_of-place.ensures.1 ∙ c.include.ensures)).inside,
      c.well_formed.1.1.1.0,
    )

pub bounds-index-start : goal.bounds-index-start
bounds-index-start c = let h : c.loop-j.j < length (block_in c.args.rec.now).includes = omega (
  arith,
  c.loop-j-test.true,
  c.include_count-count.ensures,
) in
    omega (
      arith,
      (include_stands c.args.store.now c.args.order.now c.args.index.now c.args.starts.now c.requires.known.0 (block_in c.args.rec.now) c.requires.known.1.0
          c.requires.known.1.1 c.loop-j.j c.place_of-place.result h c.place_of-place.ensures.0 (c.place_of-place.ensures.1 ∙ c.include.ensures)).inside,
    )

pub overflow_mul-cursors-in-loop-j : goal.overflow_mul-cursors-in-loop-j
overflow_mul-cursors-in-loop-j c = omega (
  arith,
  c.loop-j-test.true,
  c.include_count-count.ensures,
  (block_of_fits c.args.rec.now
      (block_in c.args.rec.now) (bytes_of c.args.rec.now (λ i h. omega (
        arith,
        c.shared_slice_known-5-1.given i,
      ))) (block_of_lem c.args.rec.now c.requires.«record»)).few_includes,
)

pub overflow_add-cursors-in-loop-j : goal.overflow_add-cursors-in-loop-j
overflow_add-cursors-in-loop-j c = omega (
  arith,
  c.loop-j-test.true,
  c.include_count-count.ensures,
  (block_of_fits c.args.rec.now
      (block_in c.args.rec.now) (bytes_of c.args.rec.now (λ i h. omega (
        arith,
        c.shared_slice_known-5-1.given i,
      ))) (block_of_lem c.args.rec.now c.requires.«record»)).few_includes,
)

pub offset_bounds-cursors-j-in-loop-j : goal.offset_bounds-cursors-j-in-loop-j
offset_bounds-cursors-j-in-loop-j c = omega (
  arith,
  c.loop-j-test.true,
  c.include_count-count.ensures,
  (block_of_fits c.args.rec.now
      (block_in c.args.rec.now) (bytes_of c.args.rec.now (λ i h. omega (
        arith,
        c.shared_slice_known-5-1.given i,
      ))) (block_of_lem c.args.rec.now c.requires.«record»)).few_includes,
)

pub bounds-cursors-j-in-loop-j : goal.bounds-cursors-j-in-loop-j
bounds-cursors-j-in-loop-j c = let h : c.loop-j.j < length (block_in c.args.rec.now).includes = omega (
  arith,
  c.loop-j-test.true,
  c.include_count-count.ensures,
) in
    simp length-set (omega (
      arith,
      c.loop-j.invariant.0,
      c.requires.room,
      (block_of_fits c.args.rec.now (block_in c.args.rec.now) (bytes_of c.args.rec.now (λ i h. omega (arith, c.shared_slice_known-5-1.given i)))
          (block_of_lem c.args.rec.now c.requires.«record»)).few_includes,
    ))

pub loop-j-smaller : goal.loop-j-smaller
loop-j-smaller c = omega (arith, c.loop-j-test.true, c.include_count-count.ensures)

pub loop-j-preserved : goal.loop-j-preserved
loop-j-preserved c = let h : c.loop-j.j < length (block_in c.args.rec.now).includes = omega (
  arith,
  c.loop-j-test.true,
  c.include_count-count.ensures,
) in (
  length-set (set c.loop-j.cursors (2 * c.loop-j.j) ((get_or c.args.starts.now c.place_of-place.result 0) + 1)) (2 * c.loop-j.j + 1)
      (get_or c.args.index.now (get_or c.args.starts.now c.place_of-place.result 0) 0)
      ∙ length-set c.loop-j.cursors (2 * c.loop-j.j) ((get_or c.args.starts.now c.place_of-place.result 0) + 1) ∙ c.loop-j.invariant.0,
  (
    omega arith,
    λ bs k r. opening_on c.args.store.now c.args.order.now c.args.index.now c.args.starts.now bs (block_in c.args.rec.now) c.loop-j.cursors c.loop-j.j
        (get_or c.args.starts.now c.place_of-place.result 0) (omega (
          arith,
          c.loop-j.invariant.0,
          c.requires.room,
          (block_of_fits
              c.args.rec.now
              (block_in c.args.rec.now) (bytes_of c.args.rec.now (λ i h. omega (
                arith,
                c.shared_slice_known-5-1.given i,
              ))) (block_of_lem c.args.rec.now c.requires.«record»)).few_includes,
        )) (c.loop-j.invariant.1.1 bs k r) (include_stands c.args.store.now c.args.order.now c.args.index.now c.args.starts.now bs (block_in c.args.rec.now) k r
        c.loop-j.j c.place_of-place.result h c.place_of-place.ensures.0 (c.place_of-place.ensures.1 ∙ c.include.ensures)),
  ),
)

pub shape_of-cursors : goal.shape_of-cursors
shape_of-cursors c = c.loop-j.invariant.0

pub returns : goal.returns
returns c = λ bs k r.
    let e : c.loop-j.j ≡ c.include_count-count.result = omega (
      arith,
      c.loop-j.invariant.1.0,
      c.loop-j-test.false,
      c.include_count-count.ensures,
    ) in
    opening_end c.args.store.now c.args.order.now c.args.index.now c.args.starts.now bs (block_in c.args.rec.now) c.loop-j.cursors c.include_count-count.result
    c.include_count-count.ensures (omega (
      arith,
      c.loop-j.invariant.0,
      c.requires.room,
      (block_of_fits c.args.rec.now (block_in c.args.rec.now) (bytes_of c.args.rec.now (λ i h. omega (arith, c.shared_slice_known-5-1.given i)))
          (block_of_lem c.args.rec.now c.requires.«record»)
          ).few_includes,
      c.include_count-count.ensures,
    )) (subst (Opening bs (block_in c.args.rec.now) c.args.index.now c.loop-j.cursors) e (c.loop-j.invariant.1.1 bs k r))
