use mathlib.Core.Path.{sym, ap, ◌∙◌}
use Prim.Native.Nat.{ℕ}
use lib.ListN.{length-replicate}
use Rattle.base.specs.Checks.{refused}
use Rattle.words.specs.Words.{bytes_of}
use Rattle.feed_many.specs.Answers.{as_records_answer}
use Rattle.host_feed_records_indexed.specs.FeedRecords.{HostCall, refused_host, told_host}
use Rattle.host_feed_records_indexed.proofs.Sizes.{host_unsized, host_fed}
use Rattle.host_feed_records_indexed.proofs.feed_records_of.Goals as goal

pub returns-then-table-ne-TABLE_BYTES : goal.returns-then-table-ne-TABLE_BYTES
unfolding as_records_answer refused_host
returns-then-table-ne-TABLE_BYTES c =
    let a = c.args in
    let e = host_unsized a.stakes.now a.store.now a.table.now a.index.now a.events.now a.outcomes.now a.records.now
    c.if-table-ne-TABLE_BYTES.true in record {
      result_value = ap refused c.refusal_before.ensures
          ∙ sym (ap (λ (x : HostCall). x.answer) e);
      store_after = sym (ap (λ (x : HostCall). x.store) e);
      table_after = sym (ap (λ (x : HostCall). x.table) e);
      index_after = sym (ap (λ (x : HostCall). x.index) e);
      events_after = sym (ap (λ (x : HostCall). x.events) e);
      outcomes_after = sym
          (ap (λ (x : HostCall). x.outcomes) e);
    }

pub returns : goal.returns
unfolding told_host
returns c =
    let a = c.args in
    let w = c.words_of in
    let e =
    host_fed a.stakes.now a.store.now a.table.now a.index.now a.events.now a.outcomes.now a.records.now w.new.words _
    c.if-table-ne-TABLE_BYTES.false
    w.ensures (length-replicate {A = ℕ} 6145 0 ∙ sym w.auto.words) in
    let f = c.feed_records_indexed-answer.ensures in record {
      result_value = f.result_value ∙ sym (ap (λ (x : HostCall). x.answer) e);
      store_after = f.store_after ∙ sym (ap (λ (x : HostCall). x.store) e);
      table_after = c.bytes_of.ensures ∙ ap bytes_of f.table_after ∙ sym (ap (λ (x : HostCall). x.table) e);
      index_after = f.index_after ∙ sym (ap (λ (x : HostCall). x.index) e);
      events_after = f.events_after ∙ sym (ap (λ (x : HostCall). x.events) e);
      outcomes_after = f.outcomes_after ∙ sym
          (ap (λ (x : HostCall). x.outcomes) e);
    }
