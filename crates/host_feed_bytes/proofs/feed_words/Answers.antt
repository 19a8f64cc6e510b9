use Rattle.host_feed_bytes.proofs.Feeds.{fed_lent}
use Rattle.words.specs.Words.{bytes_of}
use Rattle.feed_spec.specs.Feed.{Fed}
use Prim.Native.Nat.{ℕ}
use lib.ListN.{length-replicate}
use mathlib.Core.Path.{sym, ap, ◌∙◌}
use Rattle.host_feed_bytes.proofs.feed_words.Goals as goal

pub returns : goal.returns
returns c =
    let start = c.args in
    let f = c.feed-answer.ensures in
    let e = fed_lent start.stakes.now start.store.now start.table.now _ _ start.events.now start.rec.now
    (length-replicate {A = ℕ} 6145 0 ∙ sym c.requires.0)
    c.requires.1
    c.words_of.ensures in record {
      result_value = f.result_value ∙ ap (λ (x : Fed). x.answer) e;
      store_after = f.store_after
          ∙ ap (λ (x : Fed). x.store) e;
      table_after = f.table_after ∙ ap (λ (x : Fed). x.table) e;
      events_after = c.bytes_of.ensures
          ∙ ap bytes_of (f.events_after ∙ ap (λ (x : Fed). x.events) e);
    }
