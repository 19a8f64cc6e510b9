use Rattle.host_feed_indexed.proofs.Sizes.{fed_lent}
use Rattle.words.specs.Words.{bytes_of}
use Rattle.index_feed_spec.specs.IndexedFeed.{IndexedFed}
use Prim.Native.Nat.{ℕ}
use lib.ListN.{length-replicate}
use mathlib.Core.Path.{sym, ap, ◌∙◌}
use Rattle.host_feed_indexed.proofs.feed_words.Goals as goal

pub returns : goal.returns
returns c =
    let a = c.args in
    let f = c.feed_indexed-answer.ensures in
    let e = fed_lent a.stakes.now a.store.now a.table.now _ _ a.index.now a.events.now a.rec.now
    (length-replicate {A = ℕ} 6145 0 ∙ sym c.requires.0)
    c.requires.1
    c.words_of.ensures in record {
      result_value = f.result_value ∙ ap (λ (x : IndexedFed). x.fed.answer) e;
      store_after = f.store_after ∙ ap (λ (x : IndexedFed). x.fed.store) e;
      table_after = f.table_after ∙ ap (λ (x : IndexedFed). x.fed.table) e;
      index_after = f.index_after ∙ ap (λ (x : IndexedFed). x.index) e;
      events_after = c.bytes_of.ensures ∙
          ap bytes_of (f.events_after ∙ ap (λ (x : IndexedFed). x.fed.events) e);
    }
