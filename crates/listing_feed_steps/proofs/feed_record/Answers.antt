use Prim.Native.Nat.{ℕ}
use mathlib.Core.Path.{sym, ap, ◌∙◌}
use native.Mathlib.Omega.{arith}
use lib.ListN.{replicate, length-replicate}
use Rattle.base.specs.Refusals.{refusal_number}
use Rattle.feed_spec.specs.Feed.{lent_of}
use Rattle.feed_single.specs.Answers.{as_feed_answer}
use Rattle.listing_feed_steps.proofs.Feeds.{fed_one}
use Rattle.listing_feed_steps.proofs.Steps.{few_events, told_refused, told_accepted}
use borrow.Author.Rules.{rules}
use Rattle.listing_feed_steps.proofs.feed_record.Goals as goal

pub accepted-requires : goal.accepted-requires
unfolding as_feed_answer
accepted-requires c =
    let start = c.args in
    let feed = c.feed-answer in
    let few = few_events start.stakes.now (lent_of start.store.now start.table.now (replicate 6145 0) (replicate 8192 0)) start.rec.now
    c.in-Ok.n
    (sym feed.ensures.result_value ∙ ap as_feed_answer c.in-Ok.is) in
    (search rules, (omega (arith, few, feed.auto.events, length-replicate {A = ℕ} 8192 0), omega (arith, few, length-replicate {A = ℕ} 8192 0)))

pub returns-in-Ok : goal.returns-in-Ok
unfolding as_feed_answer
returns-in-Ok c =
    let start = c.args in
    let feed = c.feed-answer in
    let done = c.accepted.ensures in
    let same = told_accepted start.stakes.now start.done start.store.now feed.new.store start.table.now feed.new.table
    feed.new.events start.rec.now
    feed.ensures.store_after feed.ensures.table_after c.in-Ok.n (ap as_feed_answer (sym c.in-Ok.is) ∙ feed.ensures.result_value)
    feed.ensures.events_after in
    record {
      step = rw (← same) (done.any_step feed.new.store feed.new.table);
      counted_after = done.counted_after;
      fed_from = fed_one _ _ _
          feed.ensures.store_after feed.ensures.table_after;
    }

pub returns-in-Err : goal.returns-in-Err
unfolding as_feed_answer
returns-in-Err c =
    let start = c.args in
    let feed = c.feed-answer in
    let done = c.refused.ensures in
    let same = told_refused start.stakes.now start.done start.store.now feed.new.store start.table.now feed.new.table
    feed.new.events start.rec.now
    feed.ensures.store_after feed.ensures.table_after (refusal_number c.in-Err.refusal) (ap as_feed_answer (sym c.in-Err.is) ∙ feed.ensures.result_value) in
    record {
      step = rw (← same) (done.any_step feed.new.store feed.new.table);
      counted_after = done.counted_after;
      fed_from = fed_one _ _ _
          feed.ensures.store_after feed.ensures.table_after;
    }
