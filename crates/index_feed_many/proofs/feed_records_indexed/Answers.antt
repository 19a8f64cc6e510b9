use mathlib.Core.Path.{◌≡◌, sym, ◌∙◌}
use Prim.Native.Nat.{ℕ}
use native.Mathlib.Omega.{arith}
use lib.ListN.{length-replicate}
use Rattle.std.proofs.lemmas.Result.{err_from_is_err_and}
use Rattle.base.proofs.Refusals.{number_not_zero}
use Rattle.feed_spec.specs.Feed.{Lent, lent_of}
use Rattle.feed_frames.specs.Frames.{records_in}
use Rattle.feed_many.specs.Answers.{as_records_answer}
use Rattle.index_feed_many.proofs.Growing.{agreed_counted}
use Rattle.index_feed_many.proofs.Calls.{refuses_lent, refuses_work, refuses_outcomes, refuses_nothing, calls_refusal, calls_feeds}
use Rattle.index_feed_many.proofs.feed_records_indexed.Goals as goal

named_after : {P0 P1 P2 P3 P4 P5 : Type 0}
    → P0 × (P1 × (P2 × (P3 × (P4 × P5))))
    → record { result_value : P0; store_after : P1; table_after : P2; index_after : P3; events_after : P4; outcomes_after : P5 }
named_after p = record {
  result_value = p.0;
  store_after = p.1.0;
  table_after = p.1.1.0;
  index_after = p.1.1.1.0;
  events_after = p.1.1.1.1.0;
  outcomes_after = p.1.1.1.1.1;
}

pub returns-in_err-lent_refusal : goal.returns-in_err-lent_refusal
unfolding as_records_answer
returns-in_err-lent_refusal c =
    let a = c.args in
    let k = a.stakes.now in
    let m : Lent = lent_of a.store.now a.table.now a.work.now a.events.now in
    let x = a.index.now in
    let o = a.outcomes.now in
    let r = a.records.now in
    let told = c.in_err-lent_refusal.ensures.refusal_value in
    let some = number_not_zero c.in_err-lent_refusal.field-0.0 in
    let p = err_from_is_err_and c.from_residual.result c.from_residual.ensures.1 in
    rw (p.1, p.2) (named_after (calls_refusal k m x o r _ (told ∙ sym (refuses_lent k m x o (records_in r) (λ z. some (told ∙ z)))) some))

pub returns-then-work-table : goal.returns-then-work-table
unfolding as_records_answer
returns-then-work-table c =
    named_after (let a = c.args in
    let k = a.stakes.now in
    let m : Lent = lent_of a.store.now a.table.now a.work.now a.events.now in
    let x = a.index.now in
    let o = a.outcomes.now in
    let r = a.records.now in
    let h = sym c.in_ok-lent_refusal.ensures.refusal_value in
    calls_refusal k m x o r 12 (sym (refuses_work k m x o (records_in r) h c.if-work-table.true)) (λ (z : ◌≡◌ {A = ℕ} 12 0). omega arith))

pub returns-then-outcomes-record_count : goal.returns-then-outcomes-record_count
unfolding as_records_answer
returns-then-outcomes-record_count c =
    named_after (let a = c.args in
    let k = a.stakes.now in
    let m : Lent = lent_of a.store.now a.table.now a.work.now a.events.now in
    let x = a.index.now in
    let o = a.outcomes.now in
    let r = a.records.now in
    let h = sym c.in_ok-lent_refusal.ensures.refusal_value in
    calls_refusal k m x o r 64 (sym (refuses_outcomes k m x o (records_in r) h (omega (arith, c.if-work-table.false))
    (omega (arith, c.if-outcomes-record_count.true, c.record_count.ensures)))) (λ (z : ◌≡◌ {A = ℕ} 64 0). omega arith))

pub feed_each-n-requires : goal.feed_each-n-requires
feed_each-n-requires c =
    let q = c.lent_refusal in
    let z = c.in_ok-lent_refusal.ensures.count_bound in
    let places = q.auto.order ∙ length-replicate {A = ℕ} 1024 0 in
    let parts = q.auto.starts ∙ length-replicate {A = ℕ} 1024 0 in record {
      ready = record {
        agreed = agreed_counted q.new.order _ (omega (arith, z.0, places)) z.1;
        work = omega
            (arith, c.if-work-table.false);
        places = places;
        parts = parts;
      };
      room = omega (
        arith,
        c.if-outcomes-record_count.false,
        c.record_count.ensures,
      );
    }

pub returns : goal.returns
unfolding as_records_answer
returns c =
    named_after (let a = c.args in
    let k = a.stakes.now in
    let m : Lent = lent_of a.store.now a.table.now a.work.now a.events.now in
    let x = a.index.now in
    let o = a.outcomes.now in
    let r = a.records.now in
    let h = sym c.in_ok-lent_refusal.ensures.refusal_value in
    calls_feeds k m x o r _ _ _ _ _ _ (refuses_nothing k m x o (records_in r) h
    (omega (
      arith,
      c.if-work-table.false,
    ))
    (omega (
      arith,
      c.if-outcomes-record_count.false,
      c.record_count.ensures,
    )))
    c.feed_each-n.ensures)
