use Prim.Native.Nat.{◌+◌, ◌-◌}
use mathlib.Core.Path.{refl, sym, ap, ◌∙◌}
use mathlib.Core.Option.{none, some}
use native.Mathlib.Omega.{arith}
use lib.ListN.{length, drop, get_elem?, length-take, length-drop}
use borrow.Author.Tests.{le-leb, leb-true}
use Rattle.base.specs.Le.{Bytes}
use Rattle.record_spec.specs.Reference.{locator}
use Rattle.record_spec.specs.Record.{block_in, statement_start}
use Rattle.types.specs.Values.{as_locator}
use Rattle.store_spec.specs.Entry.{block_at}
use Rattle.store_spec.specs.Payload.{share_stretch}
use Rattle.store_spec.proofs.Loops.{entry_room, record-part}
use Rattle.store_payload.specs.Answers.{as_share, share_within}
use Rattle.store_payload.proofs.Located.{payload_unknown, payload_entry, payload_found}
use Rattle.store_payload.proofs.stored_payload.Goals as goal

pub returns-then-at-eq0 : goal.returns-then-at-eq0
unfolding as_share share_within as_locator locator
returns-then-at-eq0 c =
    let a = c.args in record {
      result_value = sym (payload_unknown a.store.now c.requires (as_locator a.locator) c.lookup-at.result c.lookup-at.ensures
          c.if-at-eq0.true);
      result_value_2 = refl;
    }

pub overflow_add-from : goal.overflow_add-from
unfolding as_locator locator
overflow_add-from c =
    let a = c.args in
    omega (
      arith,
      (entry_room a.store.now c.lookup-at.result
          (payload_entry a.store.now c.requires (as_locator a.locator) c.lookup-at.result c.lookup-at.ensures
          c.if-at-eq0.false)).inside,
    )

pub record_end-end-requires : goal.record_end-end-requires
unfolding as_locator locator
record_end-end-requires c =
    let a = c.args in
    payload_entry a.store.now c.requires (as_locator a.locator) c.lookup-at.result c.lookup-at.ensures
    c.if-at-eq0.false

pub slice_bounds-find_share-end : goal.slice_bounds-find_share-end
unfolding as_locator locator
slice_bounds-find_share-end c =
    let a = c.args in
    omega (
      arith,
      (entry_room a.store.now c.lookup-at.result
          (payload_entry a.store.now c.requires (as_locator a.locator) c.lookup-at.result
          c.lookup-at.ensures c.if-at-eq0.false)).inside,
      c.record_end-end.ensures,
    )

pub find_share-requires : goal.find_share-requires
unfolding as_locator locator
find_share-requires c =
    let a = c.args in
    let at = c.lookup-at.result in
    rw (record-part a.store.now at c.record_end-end.result c.record_end-end.ensures)
    (entry_room a.store.now at (payload_entry a.store.now c.requires (as_locator a.locator) at
    c.lookup-at.ensures c.if-at-eq0.false)).formed

pub returns-in_err-start : goal.returns-in_err-start
unfolding as_share share_within as_locator locator block_at
returns-in_err-start c =
    let a = c.args in
    let at = c.lookup-at.result in
    let told = c.find_share.ensures.result_value ∙ ap (λ (x : Bytes). share_stretch (statement_start x a.locator.offset)
    (get_elem? (block_in x).statements a.locator.offset))
    (record-part a.store.now at c.record_end-end.result c.record_end-end.ensures) in rw c.from_residual.ensures (record {
      result_value = sym (payload_found a.store.now c.requires (as_locator a.locator) at
          c.lookup-at.ensures c.if-at-eq0.false none
          (sym (ap as_share c.in_err-start.was) ∙ told));
      result_value_2 = refl;
    })

pub overflow_add-result : goal.overflow_add-result
unfolding as_locator locator share_within
overflow_add-result c =
    let a = c.args in
    let at = c.lookup-at.result in
    let inside = rw c.in_ok-start.was at c.find_share.ensures.result_value_2 in
    omega (
      arith,
      (entry_room a.store.now at (payload_entry a.store.now
          c.requires (as_locator a.locator) at
          c.lookup-at.ensures c.if-at-eq0.false)).inside,
      leb-true (c.in_ok-start.start + c.in_ok-start.len) _ inside,
      length-take
          (c.record_end-end.result - (at + 8)) (drop (at + 8) a.store.now),
      c.record_end-end.ensures,
    )

pub returns : goal.returns
unfolding as_share share_within as_locator locator block_at
returns c =
    let a = c.args in
    let at = c.lookup-at.result in
    let start = c.in_ok-start.start in
    let count = c.in_ok-start.len in
    let told = c.find_share.ensures.result_value ∙ ap
    (λ (x : Bytes). share_stretch (statement_start x a.locator.offset) (get_elem? (block_in x).statements a.locator.offset))
    (record-part a.store.now at c.record_end-end.result
    c.record_end-end.ensures) in
    let inside = rw c.in_ok-start.was at c.find_share.ensures.result_value_2 in
    let room = (entry_room a.store.now at (payload_entry a.store.now c.requires
    (as_locator a.locator) at c.lookup-at.ensures
    c.if-at-eq0.false)).inside in record {
      result_value = sym (payload_found a.store.now c.requires (as_locator a.locator) at
          c.lookup-at.ensures c.if-at-eq0.false
          (some (record { start = start; count = count })) (sym (ap as_share c.in_ok-start.was) ∙ told));
      result_value_2 = le-leb (at + 8 + start + count) (length a.store.now) (omega (
        arith,
        room,
        leb-true (start + count) _ inside,
        length-take (c.record_end-end.result - (at + 8))
            (drop (at + 8) a.store.now),
        length-drop (at + 8) a.store.now,
        c.record_end-end.ensures,
      ));
    }
