use Rattle.store_spec.proofs.Check.{order_laid}
use Rattle.pending_question.proofs.Lending.{lying}
use Rattle.feed_spec.specs.Feed.{Lent, lent_of}
use Rattle.feed_single.specs.Answers.{as_feed_answer}
use Rattle.host_feed_bytes.proofs.Feeds.{feed_most}
use Rattle.feed_many.proofs.Outcomes.{told_refused, told_room, told_accepted}
use mathlib.Core.Path.{sym, ap, ◌∙◌}
use lib.ListN.{length}
use native.Mathlib.Omega.{arith}
use Rattle.feed_many.proofs.feed_next.Goals as goal

pub feed_in_order-answer-requires : goal.feed_in_order-answer-requires
feed_in_order-answer-requires c =
    let o = c in
    let a = o.args in
    (o.requires.lent, order_laid a.stakes.now a.store.now (lying a.stakes.now a.store.now a.table.now o.requires.lent).store)

pub overflow_mul-result : goal.overflow_mul-result
unfolding as_feed_answer
overflow_mul-result c =
    let o = c in
    let a = o.args in
    let m : Lent = lent_of a.store.now a.table.now a.work.now a.events.now in
    let f = c.feed_in_order-answer in
    let e = sym (ap as_feed_answer c.in-Ok.is) ∙ f.ensures.result_value in
    omega (arith, told_room a.stakes.now m a.rec.now _ e, ap length f.ensures.events_after, f.auto, o.well_formed)

pub overflow_add-result : goal.overflow_add-result
unfolding as_feed_answer
overflow_add-result c =
    let o = c in
    let a = o.args in
    let m : Lent = lent_of a.store.now a.table.now a.work.now a.events.now in
    let f = c.feed_in_order-answer in
    let e = sym (ap as_feed_answer c.in-Err.is) ∙ f.ensures.result_value in
    omega (arith, feed_most a.stakes.now m a.rec.now _ (sym e), c.number.ensures)

pub returns-in-Ok : goal.returns-in-Ok
unfolding as_feed_answer
returns-in-Ok c =
    let o = c in
    let a = o.args in
    let m : Lent = lent_of a.store.now a.table.now a.work.now a.events.now in
    let f = c.feed_in_order-answer in
    let e = sym (ap as_feed_answer c.in-Ok.is) ∙ f.ensures.result_value in
    rw (f.ensures.store_after, f.ensures.table_after, f.ensures.events_after) (told_accepted a.stakes.now m a.rec.now _ e)

pub returns-in-Err : goal.returns-in-Err
unfolding as_feed_answer
returns-in-Err c =
    let o = c in
    let a = o.args in
    let m : Lent = lent_of a.store.now a.table.now a.work.now a.events.now in
    let f = c.feed_in_order-answer in
    let e = sym (ap as_feed_answer c.in-Err.is) ∙ f.ensures.result_value in
    rw (c.number.ensures, f.ensures.store_after, f.ensures.table_after, f.ensures.events_after) (told_refused a.stakes.now m a.rec.now _ e)
