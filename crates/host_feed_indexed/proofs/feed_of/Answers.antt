use Rattle.host_feed_indexed.specs.IndexedFeed.{IndexedCall, refused_call, fed_call, fed_with}
use Rattle.host_feed_indexed.proofs.Sizes.{feed_unsized, feed_eventless, feed_sized}
use Rattle.base.specs.Checks.{refused}
use Rattle.words.specs.Words.{words_of, bytes_of}
use Rattle.index_feed_spec.specs.IndexedFeed.{IndexedFed}
use Rattle.feed_single.specs.Answers.{as_feed_answer}
use mathlib.Core.Path.{sym, ap, ◌∙◌}
use Rattle.host_feed_indexed.proofs.feed_of.Goals as goal

pub returns-then-table-ne-TABLE_BYTES : goal.returns-then-table-ne-TABLE_BYTES
unfolding as_feed_answer refused_call
returns-then-table-ne-TABLE_BYTES c =
    let a = c.args in
    let e = feed_unsized a.stakes.now a.store.now a.table.now a.index.now a.events.now a.rec.now c.if-table-ne-TABLE_BYTES.true in record {
      result_value = ap refused c.refusal_before.ensures
          ∙ sym (ap (λ (x : IndexedCall). x.answer) e);
      store_after = sym (ap (λ (x : IndexedCall). x.store) e);
      table_after = sym
          (ap (λ (x : IndexedCall). x.table) e);
      index_after = sym (ap (λ (x : IndexedCall). x.index) e);
      events_after = sym
          (ap (λ (x : IndexedCall). x.events) e);
    }

pub returns-then-events-ne-EVENT_BYTES : goal.returns-then-events-ne-EVENT_BYTES
unfolding as_feed_answer refused_call
returns-then-events-ne-EVENT_BYTES c =
    let a = c.args in
    let e = feed_eventless a.stakes.now a.store.now a.table.now a.index.now a.events.now a.rec.now
    c.if-table-ne-TABLE_BYTES.false c.if-events-ne-EVENT_BYTES.true in record {
      result_value = rw (c.no_events.ensures, c.words_of.ensures) (sym (ap (λ (x : IndexedCall). x.answer) e));
      store_after = sym
          (ap (λ (x : IndexedCall). x.store) e);
      table_after = sym (ap (λ (x : IndexedCall). x.table) e);
      index_after = sym
          (ap (λ (x : IndexedCall). x.index) e);
      events_after = sym (ap (λ (x : IndexedCall). x.events) e);
    }

pub returns : goal.returns
unfolding fed_call
returns c =
    let a = c.args in
    let e = feed_sized a.stakes.now a.store.now a.table.now a.index.now a.events.now a.rec.now
    c.if-table-ne-TABLE_BYTES.false c.if-events-ne-EVENT_BYTES.false in
    let w = ap (λ ws. fed_with a.stakes.now a.store.now ws a.index.now (words_of a.events.now) a.rec.now)
    c.words_of.ensures in
    let f = c.feed_words-answer.ensures in record {
      result_value = f.result_value ∙ ap (λ (x : IndexedFed). x.fed.answer) w ∙ sym (ap (λ (x : IndexedCall). x.answer) e);
      store_after = f.store_after ∙ ap (λ (x : IndexedFed). x.fed.store) w ∙ sym (ap (λ (x : IndexedCall). x.store) e);
      table_after = c.bytes_of.ensures ∙ ap bytes_of (f.table_after ∙ ap (λ (x : IndexedFed). x.fed.table) w) ∙ sym
          (ap (λ (x : IndexedCall). x.table) e);
      index_after = f.index_after ∙ ap (λ (x : IndexedFed). x.index) w ∙ sym (ap (λ (x : IndexedCall). x.index) e);
      events_after = f.events_after ∙ ap (λ (x : IndexedFed). bytes_of x.fed.events) w ∙ sym (ap (λ (x : IndexedCall). x.events) e);
    }
