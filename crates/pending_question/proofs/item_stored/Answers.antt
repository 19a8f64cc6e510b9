use Prim.Native.Nat.{ℕ}
use mathlib.Core.Path.{◌≡◌, sym, ◌∙◌}
use mathlib.Core.Bool.{true}
use Rattle.base.specs.Le.{Bytes, le_at}
use Rattle.store_spec.specs.Entry.{is_entry, readable}
use Rattle.pending_question.specs.Step.{OnEntry}
use Rattle.pending_question.proofs.Checked.{part_place, part_stored, part_walked, not_there, not_past}
use Rattle.store_spec.specs.Store.{used_length}
use Rattle.pending_question.proofs.Entries.{stands_on}
use native.Mathlib.Omega.{arith}
use Rattle.store_spec.proofs.Check.{is_readable}
use Rattle.store_spec.proofs.Loops.{entry_room, record-part, refuses}
use Rattle.pending_words.specs.Answers.{as_item}
use Rattle.pending_question.proofs.item_stored.Goals as goal

pub entry_from-at-requires : goal.entry_from-at-requires
unfolding as_item
entry_from-at-requires c = let o = c in (o.requires.0, o.requires.1, o.requires.2.passed)

pub returns-then-at-x : goal.returns-then-at-x
unfolding as_item
returns-then-at-x c = refuses (not_there _ _ _ c.entry_from-at.ensures c.if-at-x.true)

pub read_u32-requires : goal.read_u32-requires
read_u32-requires c = let o = c in omega (arith, (is_readable _ o.requires.0).header.long)

pub returns-then-at-read_u32 : goal.returns-then-at-read_u32
unfolding as_item used_length
returns-then-at-read_u32 c =
    let o = c in
    refuses (not_past _ _ _ c.if-at-x.false (c.if-at-read_u32.true ∙ c.read_u32.ensures ∙ sym (is_readable _ o.requires.0).used))

stands : (s : Bytes) (at u : ℕ) → readable s ≡ true → OnEntry s at → u ≡ le_at 4 s 4 → (at ≡ u → ⊥) → is_entry s at ≡ true
unfolding used_length
stands s at u r on e f = stands_on s at on (λ q. f (q ∙ (is_readable s r).used ∙ sym e))

pub record_end-end-requires : goal.record_end-end-requires
record_end-end-requires c = stands _ _ _ c.requires.0 c.entry_from-at.ensures.on c.read_u32.ensures c.if-at-read_u32.false

pub overflow_add-from : goal.overflow_add-from
overflow_add-from c =
    let o = c in
    omega (
      arith,
      (entry_room o.args.store.now c.entry_from-at.result
          ((stands _ _ _ c.requires.0 c.entry_from-at.ensures.on c.read_u32.ensures c.if-at-read_u32.false))).inside,
    )

pub slice_bounds-place_in-end : goal.slice_bounds-place_in-end
slice_bounds-place_in-end c =
    let o = c in
    omega (
      arith,
      (entry_room o.args.store.now c.entry_from-at.result ((stands _ _ _ c.requires.0 c.entry_from-at.ensures.on c.read_u32.ensures c.if-at-read_u32.false))
          ).inside,
      c.record_end-end.ensures,
    )

pub place_in-cursor-requires : goal.place_in-cursor-requires
place_in-cursor-requires c =
    let d = c in
    let o = d in
    let at = d.entry_from-at.result in
    rw (record-part o.args.store.now at c.record_end-end.result c.record_end-end.ensures)
    (entry_room o.args.store.now at ((stands _ _ _ c.requires.0 c.entry_from-at.ensures.on c.read_u32.ensures c.if-at-read_u32.false))).formed

pub slice_bounds-item_suits-end : goal.slice_bounds-item_suits-end
slice_bounds-item_suits-end c =
    let d = c in
    let o = d in
    omega (
      arith,
      (entry_room o.args.store.now d.entry_from-at.result
          ((stands _ _ _ c.requires.0 c.entry_from-at.ensures.on c.read_u32.ensures c.if-at-read_u32.false))).inside,
      c.record_end-end.ensures,
    )

pub item_suits-found-requires : goal.item_suits-found-requires
unfolding as_item
item_suits-found-requires c =
    let d = c in
    let o = d in
    let s = o.args.store.now in
    let at = d.entry_from-at.result in
    let h = (stands _ _ _ c.requires.0 c.entry_from-at.ensures.on c.read_u32.ensures c.if-at-read_u32.false) in
    let e = record-part s at c.record_end-end.result c.record_end-end.ensures in (
      rw e (entry_room s at h).formed,
      part_place s (as_item o.args.x) at _ h d.if-at-x.false e o.args.walk
          c.place_in-cursor.result o.requires.2 c.place_in-cursor.ensures,
      o.requires.3,
    )

pub returns : goal.returns
unfolding as_item
returns c =
    let d = c in
    let o = d in
    let s = o.args.store.now in
    let at = d.entry_from-at.result in
    let h = (stands _ _ _ c.requires.0 c.entry_from-at.ensures.on c.read_u32.ensures c.if-at-read_u32.false) in
    let e = record-part s at c.record_end-end.result
    c.record_end-end.ensures in
    let x = as_item o.args.x in
    let p = d.if-at-x.false in
    (c.item_suits-found.ensures.0 ∙ sym (part_stored s x at _ h p e), λ t. part_walked s x at _ h p e _ (c.item_suits-found.ensures.1 t))
