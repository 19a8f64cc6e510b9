use mathlib.Core.Path.{sym, ap, ◌∙◌}
use native.Mathlib.Omega.{arith}
use Rattle.base.specs.Lists.{pick}
use Rattle.base.specs.Le.{Bytes}
use Rattle.record_spec.specs.Block.{is_share_at}
use Rattle.record_spec.specs.Record.{block_in}
use Rattle.store_spec.specs.Store.{used_length}
use Rattle.store_spec.specs.Entry.{block_at}
use Rattle.store_spec.proofs.Check.{is_readable}
use Rattle.store_spec.proofs.Loops.{entry_room, record-part}
use Rattle.pending_question.proofs.Lending.{laid_readable}
use Rattle.feed_missed.proofs.Missing.{missed_unknown, missed_own, stored_at, missed_stored}
use Rattle.feed_missed.proofs.Telling.{retold}
use Rattle.feed_missed.proofs.missed_events.Goals as goal

pub returns-then-p-eq0 : goal.returns-then-p-eq0
returns-then-p-eq0 c =
    let o = c in (
      c.put_events.ensures.0,
      retold _ _ _ _ _ _ _ _
          (λ q. sym (missed_unknown _ _ _ o.requires.stored.0 o.requires.stored.3 (sym c.if-p-eq0.true ∙ o.requires.stored.2) q))
          c.put_events.ensures.1,
    )

pub read_u32-requires : goal.read_u32-requires
read_u32-requires c = omega (arith, (is_readable _ (laid_readable _ c.requires.stored.0)).header.long)

pub returns-then-at-read_u32 : goal.returns-then-at-read_u32
unfolding used_length
returns-then-at-read_u32 c =
    let o = c in
    let own = (is_readable _ (laid_readable _ o.requires.stored.0)).used ∙ sym c.read_u32.ensures ∙ sym
    c.if-at-read_u32.true ∙ o.requires.stored.2 in (
      c.missed_in.ensures.0,
      retold _ _ _ _ _ _ _ _ (λ q. sym (missed_own _ _ _ o.requires.stored.0 o.requires.stored.3 own q))
          c.missed_in.ensures.1,
    )

pub overflow_add-from : goal.overflow_add-from
unfolding used_length
overflow_add-from c =
    let o = c in
    omega (
      arith,
      (entry_room o.args.store.now o.args.p (stored_at _ _ _ _ o.requires.stored.2 c.if-p-eq0.false
          (λ z. c.if-at-read_u32.false (z ∙ (is_readable _ (laid_readable _ o.requires.stored.0)).used ∙ sym c.read_u32.ensures))
          (laid_readable _ o.requires.stored.0))
          ).inside,
    )

pub record_end-stop-requires : goal.record_end-stop-requires
unfolding used_length
record_end-stop-requires c =
    let o = c in
    (stored_at _ _ _ _ o.requires.stored.2 c.if-p-eq0.false
    (λ z. c.if-at-read_u32.false (z ∙ (is_readable _ (laid_readable _ o.requires.stored.0)).used ∙ sym c.read_u32.ensures))
    (laid_readable _ o.requires.stored.0))

pub slice_bounds-missed_in-end : goal.slice_bounds-missed_in-end
unfolding used_length
slice_bounds-missed_in-end c =
    let o = c in
    omega (
      arith,
      (entry_room o.args.store.now o.args.p (stored_at _ _ _ _ o.requires.stored.2 c.if-p-eq0.false
          (λ z. c.if-at-read_u32.false (z ∙ (is_readable _ (laid_readable _ o.requires.stored.0)).used ∙ sym c.read_u32.ensures))
          (laid_readable _ o.requires.stored.0))).inside,
      c.record_end-stop.ensures,
    )

pub missed_in-requires-2 : goal.missed_in-requires-2
unfolding used_length
missed_in-requires-2 c =
    let o = c in
    let e = record-part o.args.store.now o.args.p c.record_end-stop.result c.record_end-stop.ensures in (
      rw e (entry_room o.args.store.now o.args.p (stored_at _ _ _ _ o.requires.stored.2 c.if-p-eq0.false
          (λ z. c.if-at-read_u32.false (z ∙ (is_readable _ (laid_readable _ o.requires.stored.0)).used ∙ sym
          c.read_u32.ensures)) (laid_readable _ o.requires.stored.0))).formed,
      o.requires.room.0,
      o.requires.room.1,
    )

pub returns : goal.returns
unfolding used_length block_at
returns c =
    let o = c in
    let e = record-part o.args.store.now o.args.p c.record_end-stop.result
    c.record_end-stop.ensures in
    let stored = missed_stored _ _ _ _ o.requires.stored.2 c.if-p-eq0.false
    (λ z. c.if-at-read_u32.false
    (z ∙ (is_readable _ (laid_readable _ o.requires.stored.0)).used ∙ sym c.read_u32.ensures))
    (laid_readable _ o.requires.stored.0) o.requires.stored.0 o.requires.stored.3 in (
      c.missed_in-2.ensures.0,
      retold _ _ _ _ _ _ _ _ (λ q. ap (λ (v : Bytes). pick (is_share_at (block_in v) q) 2 3) e ∙ sym (stored q))
          c.missed_in-2.ensures.1,
    )
