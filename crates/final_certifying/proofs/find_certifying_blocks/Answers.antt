use Prim.Native.Nat.{◌-◌}
use mathlib.Core.Path.{◌≡◌, sym, ap, ◌∙◌}
use mathlib.Core.Bool.{true, false}
use native.Mathlib.Omega.{arith}
use lib.ListN.{length, get_or}
use Rattle.types.specs.Values.{as_reference, as_locator}
use Rattle.final_spec.specs.Finality.{blocks_of}
use Rattle.final_block_votes.specs.Walk.{block_at_place}
use Rattle.final_block_votes.proofs.Sorting.{some_committee, place_entry, place_author}
use Rattle.final_readings_spec.specs.Readings.{certifies_in}
use Rattle.final_readings_spec.specs.Answers.{as_reading}
use Rattle.final_certifying.proofs.Finding.{holds_at, found, walked_start, walked_no, walked_yes}
use Rattle.final_certifying.proofs.Certifying.{certifying_all, certifiers_all}
use Rattle.final_certifying.proofs.find_certifying_blocks.Goals as goal

pub loop-k-init : goal.loop-k-init
loop-k-init c = let a = c.args in
    (c.requires.1.1, rw c.new-authors.ensures (walked_start _ a.store.now a.order.now a.positions.now))

pub certifies_at-found-requires : goal.certifies_at-found-requires
certifies_at-found-requires c = (
  (
    c.requires.0,
    c.loop-k-test.true,
  ),
  c.loop-k.invariant.0,
)

pub loop-k-preserved-then-not-found : goal.loop-k-preserved-then-not-found
loop-k-preserved-then-not-found c = let a = c.args in
    let i = c.loop-k in
    let v = c.certifies_at-found in
    let e : holds_at (certifies_in (as_reading a.reading) a.stakes.now (blocks_of a.store.now) (as_locator a.locator)) a.store.now
    (get_or a.order.now i.k 0) ≡ false = sym v.ensures.value ∙ c.if-not-found.true in (
      v.ensures.remembers_both,
      walked_no _ a.store.now a.order.now a.positions.now i.positions i.authors i.blocks i.k i.invariant.1
          c.loop-k-test.true e,
    )

pub offset_bounds-positions-blocks : goal.offset_bounds-positions-blocks
offset_bounds-positions-blocks c = omega (
  arith,
  c.loop-k.invariant.1.few,
  c.loop-k.invariant.0.few,
  c.loop-k-test.true,
)

pub bounds-positions-blocks : goal.bounds-positions-blocks
bounds-positions-blocks c = omega (
  arith,
  c.loop-k.invariant.1.few,
  c.loop-k-test.true,
  c.loop-k.invariant.1.room,
  c.requires.1.0,
)

pub overflow_add-blocks : goal.overflow_add-blocks
overflow_add-blocks c = omega (
  arith,
  c.loop-k.invariant.1.few,
  c.loop-k.invariant.0.few,
  c.loop-k-test.true,
)

pub reference_at-block-requires : goal.reference_at-block-requires
reference_at-block-requires c = let a = c.args in
    place_entry a.store.now a.order.now (some_committee c.requires.0.0) c.loop-k.k
    c.loop-k-test.true

pub insert-authors-requires : goal.insert-authors-requires
unfolding as_reference block_at_place
insert-authors-requires c = let a = c.args
    in
    rw (ap (λ r. r.authority) c.reference_at-block.ensures) (place_author a.store.now a.order.now
    (some_committee c.requires.0.0) c.loop-k.k
    c.loop-k-test.true)

pub loop-k-preserved : goal.loop-k-preserved
unfolding as_reference block_at_place
loop-k-preserved c = let a = c.args in
    let i = c.loop-k in
    let v = c.certifies_at-found in
    let e : holds_at (certifies_in (as_reading a.reading) a.stakes.now (blocks_of a.store.now) (as_locator a.locator)) a.store.now
    (get_or a.order.now i.k 0) ≡ true = sym v.ensures.value ∙ c.if-not-found.false in
    let h = c.loop-k-test.true in
    let p = c.requires in (
      v.ensures.remembers_both,
      rw (c.insert-authors.ensures, ap (λ r. r.authority) c.reference_at-block.ensures)
          (walked_yes _ a.store.now a.order.now a.positions.now i.positions i.authors i.blocks i.k i.invariant.1 h e
          (place_author a.store.now a.order.now (some_committee p.0.0) i.k h) p.1.0),
    )

pub shape_of-positions : goal.shape_of-positions
shape_of-positions c = c.loop-k.invariant.1.room

pub shape_of-memo : goal.shape_of-memo
shape_of-memo c = c.loop-k.invariant.0.long ∙ sym c.requires.1.1.long

pub returns : goal.returns
returns c = let a = c.args in
    let i = c.loop-k in
    let w = i.invariant.1 in
    let o = c.requires.0.0 in
    let k : i.k ≡ length a.order.now = omega (arith, w.inside, c.loop-k-test.false) in
    let f = ap (found (certifies_in (as_reading a.reading) a.stakes.now (blocks_of a.store.now) (as_locator a.locator)) a.store.now
    a.order.now) k ∙ certifying_all (as_reading a.reading) a.stakes.now a.store.now (as_locator a.locator) a.order.now o in record {
      blocks_value = w.many ∙ ap length f;
      authors_value = certifiers_all (as_reading a.reading) a.stakes.now a.store.now (as_locator a.locator) a.order.now o i.authors
          (rw k at w.authored);
      positions_after = rw f at w.written;
      remembers_both = i.invariant.0;
    }
