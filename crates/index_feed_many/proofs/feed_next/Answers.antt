use mathlib.Core.Path.{sym, ap, ◌∙◌}
use native.Mathlib.Omega.{arith}
use lib.ListN.{length}
use lib.Seq.{length-take-le}
use Rattle.base.proofs.Le.{bytes_of}
use Rattle.feed_spec.specs.Feed.{Lent, lent_of}
use Rattle.feed_single.specs.Answers.{as_feed_answer}
use Rattle.index_feed_many.proofs.Numbers.{feed_below}
use Rattle.index_feed_many.proofs.Growing.{header_long, counted, few_counted, used_up, some_words, told_refused, ready_refused, told_room, told_accepted}
use Rattle.index_feed_many.proofs.Growing.{laid, among, ready_accepted}
use Rattle.index_feed_many.proofs.feed_next.Goals as goal

pub read_u16-count-requires : goal.read_u16-count-requires
read_u16-count-requires c = omega (
  arith,
  header_long c.args.store.now
      c.requires.agreed.laid,
)

pub read_u32-at-requires : goal.read_u32-at-requires
read_u32-at-requires c = omega (
  arith,
  header_long c.args.store.now c.requires.agreed.laid,
)

pub bounds-index-0 : goal.bounds-index-0
bounds-index-0 c = some_words _ c.args.index.now c.requires.agreed.agrees

pub slice_bounds-feed_agreed-end : goal.slice_bounds-feed_agreed-end
slice_bounds-feed_agreed-end c = omega (
  arith,
  few_counted
      c.args.store.now
      c.requires.agreed.laid,
  c.read_u16-count.ensures,
  c.requires.places,
)

pub slice_bounds-feed_agreed-end-2 : goal.slice_bounds-feed_agreed-end-2
slice_bounds-feed_agreed-end-2 c = sym (length-take-le c.read_u16-count.result
    c.args.order.now
    (omega (
      arith,
      few_counted c.args.store.now c.requires.agreed.laid,
      c.read_u16-count.ensures,
      c.requires.places,
    )))

pub feed_agreed-answer-requires : goal.feed_agreed-answer-requires
feed_agreed-answer-requires c =
    let o = c in
    rw (
      c.read_u16-count.ensures,
      counted o.args.store.now
          o.requires.agreed.laid,
    ) o.requires.agreed

pub note_block-requires : goal.note_block-requires
unfolding as_feed_answer
note_block-requires c =
    let o = c in
    let a = o.args in
    let m : Lent = lent_of a.store.now a.table.now a.work.now a.events.now in
    let f = c.feed_agreed-answer.ensures in
    let e = sym (ap as_feed_answer c.in-Ok.is) ∙ f.result_value in
    let used = c.read_u32-at.ensures ∙ used_up a.store.now o.requires.agreed.laid in record {
      store = rw (f.store_after, used) (
        laid a.stakes.now m a.index.now a.rec.now a.order.now a.starts.now o.requires _ e,
        among a.stakes.now m
            a.index.now a.rec.now a.order.now a.starts.now o.requires _ e,
      );
      room = (omega (arith, o.requires.places), omega (arith, o.requires.parts));
    }

pub overflow_mul-result : goal.overflow_mul-result
unfolding as_feed_answer
overflow_mul-result c =
    let o = c in
    let a = o.args in
    let m : Lent = lent_of a.store.now a.table.now a.work.now a.events.now in
    let f = c.feed_agreed-answer.ensures in
    let e = sym (ap as_feed_answer c.in-Ok.is) ∙ f.result_value in
    omega (
      arith,
      told_room a.stakes.now m a.index.now a.rec.now a.order.now a.starts.now o.requires _ e,
      ap length f.events_after,
      c.feed_agreed-answer.auto,
      o.well_formed,
    )

pub overflow_add-result : goal.overflow_add-result
unfolding as_feed_answer
overflow_add-result c =
    let o = c in
    let a = o.args in
    let m : Lent = lent_of a.store.now a.table.now a.work.now a.events.now in
    let f = c.feed_agreed-answer.ensures in
    let e = sym (ap as_feed_answer c.in-Err.is) ∙ f.result_value in
    omega (arith, feed_below a.stakes.now m a.index.now a.rec.now _ (sym e), c.number.ensures)

pub returns-in-Ok : goal.returns-in-Ok
unfolding as_feed_answer
returns-in-Ok c =
    let o = c in
    let a = o.args in
    let m : Lent = lent_of a.store.now a.table.now a.work.now a.events.now in
    let f = c.feed_agreed-answer.ensures in
    let e = sym (ap as_feed_answer c.in-Ok.is) ∙ f.result_value in
    let used = c.read_u32-at.ensures ∙ used_up a.store.now
    o.requires.agreed.laid in
    let bytes = bytes_of c.feed_agreed-answer.new.store
    (λ i h. omega (
      arith,
      c.slice_known-9-1.given i,
    )) in
    let noted = rw (used, f.store_after) at c.note_block.ensures in record {
      told = rw (f.store_after, f.table_after, f.index_after, f.events_after) (told_accepted a.stakes.now m a.index.now a.rec.now a.order.now a.starts.now
          o.requires _ e);
      ready = rw (f.store_after, f.table_after, f.index_after)
          (ready_accepted a.stakes.now m a.index.now a.rec.now a.order.now a.starts.now o.requires _ e (rw f.store_after at bytes) _ _ noted
          c.note_block.auto.order);
    }

pub returns-in-Err : goal.returns-in-Err
unfolding as_feed_answer
returns-in-Err c =
    let o = c in
    let a = o.args in
    let m : Lent = lent_of a.store.now a.table.now a.work.now a.events.now in
    let f = c.feed_agreed-answer.ensures in
    let e = sym (ap as_feed_answer c.in-Err.is) ∙ f.result_value in record {
      told = rw (c.number.ensures, f.store_after, f.table_after, f.index_after, f.events_after) (told_refused a.stakes.now m a.index.now a.rec.now
          a.order.now a.starts.now o.requires _ e);
      ready = rw (f.store_after, f.table_after, f.index_after) (ready_refused a.stakes.now m a.index.now a.rec.now a.order.now a.starts.now o.requires _ e);
    }
