use mathlib.Core.Path.{sym, ap, ap₂, ◌∙◌}
use Prim.Native.Nat.{◌<◌}
use native.Mathlib.Omega.{arith}
use Rattle.committee_set.specs.AuthoritySet.{member}
use Rattle.record_spec.specs.Block.{author}
use Rattle.record_spec.specs.Reference.{BlockReference}
use Rattle.types.specs.Values.{as_reference, as_locator}
use Rattle.final_block_votes.specs.Walk.{block_at_place}
use Rattle.final_block_votes.proofs.Sorting.{place_entry, place_author}
use Rattle.slip_write_distances.proofs.Reading.{own_member}
use Rattle.slip_write_distances.proofs.note_own.Goals as goal

pub own_vote_at-own-requires : goal.own_vote_at-own-requires
own_vote_at-own-requires c = let a = c.args in
    let q = c.requires in (
      place_entry a.store.now a.order.now q.0.0 a.k q.0.1,
      unfold block_at_place in place_author a.store.now a.order.now q.0.0
          a.k q.0.1,
    )

pub reference_at-block-requires : goal.reference_at-block-requires
reference_at-block-requires c = let a = c.args in
    let q = c.requires in
    place_entry a.store.now a.order.now q.0.0 a.k q.0.1

pub returns-then-not-contains : goal.returns-then-not-contains
unfolding as_reference block_at_place
returns-then-not-contains c = let a = c.args in
    let e = ap (λ (r : BlockReference). r.authority) c.reference_at-block.ensures in
    let v = c.contains.ensures ∙ ap₂ member c.own_vote_at-own.ensures e ∙ own_member
    (block_at_place a.store.now a.order.now a.k) (as_locator a.locator) in
    rw (sym v ∙ c.if-not-contains.true)

pub overflow_add-near : goal.overflow_add-near
unfolding as_reference block_at_place
overflow_add-near c = let a = c.args in
    let q = c.requires in
    let e = ap (λ (r : BlockReference). r.authority) c.reference_at-block.ensures in
    let s : author (block_at_place a.store.now a.order.now a.k) < 128 = place_author a.store.now a.order.now q.0.0 a.k q.0.1 in
    omega (arith, e, s, q.0.1, q.1.0, q.1.1)

pub offset_bounds-near-k : goal.offset_bounds-near-k
unfolding as_reference block_at_place
offset_bounds-near-k c = let a = c.args in
    let q = c.requires in
    let e = ap (λ (r : BlockReference). r.authority) c.reference_at-block.ensures in
    let s : author (block_at_place a.store.now a.order.now a.k) < 128 = place_author a.store.now a.order.now q.0.0 a.k q.0.1 in
    omega (arith, e, s, q.0.1, q.1.0, q.1.1)

pub bounds-near-k : goal.bounds-near-k
unfolding as_reference block_at_place
bounds-near-k c = let a = c.args in
    let q = c.requires in
    let e = ap (λ (r : BlockReference). r.authority) c.reference_at-block.ensures in
    let s : author (block_at_place a.store.now a.order.now a.k) < 128 = place_author a.store.now a.order.now q.0.0 a.k q.0.1 in
    omega (arith, e, s, q.0.1, q.1.0, q.1.1)

pub returns : goal.returns
unfolding as_reference block_at_place
returns c = let a = c.args in
    let e = ap (λ (r : BlockReference). r.authority) c.reference_at-block.ensures in
    let v = c.contains.ensures ∙ ap₂ member c.own_vote_at-own.ensures e ∙ own_member
    (block_at_place a.store.now a.order.now a.k) (as_locator a.locator) in
    rw (sym v ∙ c.if-not-contains.false, e)
