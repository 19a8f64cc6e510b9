use Rattle.host_feed_bytes.proofs.Feeds.{feed_unsized, feed_eventless, feed_sized}
use Rattle.host_feed_bytes.specs.Feed.{FeedCall, refused_call, fed_call, fed_with}
use Rattle.base.specs.Checks.{refused}
use Rattle.words.specs.Words.{words_of, bytes_of}
use Rattle.feed_spec.specs.Feed.{Fed}
use Rattle.feed_single.specs.Answers.{as_feed_answer}
use mathlib.Core.Path.{sym, ap, ◌∙◌}
use Rattle.host_feed_bytes.proofs.feed_of.Goals as goal

pub returns-then-table-ne-TABLE_BYTES : goal.returns-then-table-ne-TABLE_BYTES
unfolding as_feed_answer refused_call
returns-then-table-ne-TABLE_BYTES c =
    let start = c.args in
    let e = feed_unsized start.stakes.now start.store.now start.table.now start.events.now start.rec.now c.if-table-ne-TABLE_BYTES.true
    in record {
      result_value = ap refused c.refusal_before.ensures
          ∙ sym (ap (λ (x : FeedCall). x.answer) e);
      store_after = sym (ap (λ (x : FeedCall). x.store) e);
      table_after = sym (ap (λ (x : FeedCall). x.table) e);
      events_after = sym (ap (λ (x : FeedCall). x.events) e);
    }

pub returns-then-events-ne-EVENT_BYTES : goal.returns-then-events-ne-EVENT_BYTES
unfolding as_feed_answer refused_call
returns-then-events-ne-EVENT_BYTES c =
    let start = c.args in
    let e = feed_eventless start.stakes.now start.store.now start.table.now start.events.now start.rec.now
    c.if-table-ne-TABLE_BYTES.false c.if-events-ne-EVENT_BYTES.true in record {
      result_value = rw (c.no_events.ensures, c.words_of.ensures) (sym (ap (λ (x : FeedCall). x.answer) e));
      store_after = sym
          (ap (λ (x : FeedCall). x.store) e);
      table_after = sym (ap (λ (x : FeedCall). x.table) e);
      events_after = sym (ap (λ (x : FeedCall). x.events) e);
    }

pub returns : goal.returns
unfolding fed_call
returns c =
    let start = c.args in
    let e = feed_sized start.stakes.now start.store.now start.table.now start.events.now start.rec.now
    c.if-table-ne-TABLE_BYTES.false c.if-events-ne-EVENT_BYTES.false in
    let w = ap (λ ws. fed_with start.stakes.now start.store.now ws (words_of start.events.now) start.rec.now)
    c.words_of.ensures
    in
    let f = c.feed_words-answer.ensures in record {
      result_value = f.result_value ∙ ap (λ (x : Fed). x.answer) w ∙ sym (ap (λ (x : FeedCall). x.answer) e);
      store_after = f.store_after ∙ ap (λ (x : Fed). x.store) w ∙ sym (ap (λ (x : FeedCall). x.store) e);
      table_after = c.bytes_of.ensures ∙ ap bytes_of (f.table_after ∙ ap (λ (x : Fed). x.table) w) ∙ sym (ap (λ (x : FeedCall). x.table) e);
      events_after = f.events_after ∙
          ap (λ (x : Fed). bytes_of x.events) w ∙ sym (ap (λ (x : FeedCall). x.events) e);
    }
