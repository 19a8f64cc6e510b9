use Rattle.std.proofs.lemmas.Result.{err_from_is_err_and}
use Rattle.base.proofs.Refusals.{number_not_zero}
use Rattle.feed_spec.specs.Feed.{Lent, lent_of}
use Rattle.feed_frames.specs.Frames.{records_in}
use Rattle.feed_many.specs.Answers.{as_records_answer}
use Rattle.feed_many.proofs.Calls.{refuses_lent, refuses_work, refuses_outcomes, refuses_nothing, calls_refusal, calls_feeds}
use mathlib.Core.Path.{◌≡◌, sym, ◌∙◌}
use Prim.Native.Nat.{ℕ}
use native.Mathlib.Omega.{arith}
use Rattle.feed_many.proofs.feed_records.Goals as goal

named_result_value_store_after_table_after_events_after_outcomes_after : {P0 P1 P2 P3 P4 : Type 0} → P0 × (P1 × (P2 × (P3 × P4)))
    → record { result_value : P0; store_after : P1; table_after : P2; events_after : P3; outcomes_after : P4 }
named_result_value_store_after_table_after_events_after_outcomes_after p = record
    { result_value = p.0; store_after = p.1.0; table_after = p.1.1.0; events_after = p.1.1.1.0; outcomes_after = p.1.1.1.1 }

pub returns-in_err-lent_refusal : goal.returns-in_err-lent_refusal
unfolding as_records_answer
returns-in_err-lent_refusal c =
    let a = c.args in
    let k = a.stakes.now in
    let m : Lent = lent_of a.store.now a.table.now a.work.now a.events.now in
    let o = a.outcomes.now in
    let r = a.records.now in
    let told = c.in_err-lent_refusal.ensures.first in
    let some = number_not_zero c.in_err-lent_refusal.field-0.0 in
    let p = err_from_is_err_and c.from_residual.result c.from_residual.ensures.1 in
    let g = calls_refusal k m o r _ (told ∙ sym (refuses_lent k m o (records_in r) (λ z. some (told ∙ z)))) some in
    record { result_value = rw (p.1, p.2) g.0; store_after = g.1.0; table_after = g.1.1.0; events_after = g.1.1.1.0; outcomes_after = g.1.1.1.1 }

pub returns-then-work-table : goal.returns-then-work-table
unfolding as_records_answer
returns-then-work-table c =
    named_result_value_store_after_table_after_events_after_outcomes_after (let a = c.args in
    let k = a.stakes.now in
    let m : Lent = lent_of a.store.now a.table.now a.work.now a.events.now in
    let o = a.outcomes.now in
    let r = a.records.now in
    let h = sym c.in_ok-lent_refusal.ensures.first in
    calls_refusal k m o r 12 (sym (refuses_work k m o (records_in r) h c.if-work-table.true)) (λ (z : ◌≡◌ {A = ℕ} 12 0). omega arith))

pub returns-then-outcomes-record_count : goal.returns-then-outcomes-record_count
unfolding as_records_answer
returns-then-outcomes-record_count c =
    named_result_value_store_after_table_after_events_after_outcomes_after (let a = c.args in
    let k = a.stakes.now in
    let m : Lent = lent_of a.store.now a.table.now a.work.now a.events.now in
    let o = a.outcomes.now in
    let r = a.records.now in
    let h = sym c.in_ok-lent_refusal.ensures.first in
    calls_refusal k m o r 64 (sym (refuses_outcomes k m o (records_in r) h (omega (arith, c.if-work-table.false))
    (omega (arith, c.if-outcomes-record_count.true, c.record_count.ensures)))) (λ (z : ◌≡◌ {A = ℕ} 64 0). omega arith))

pub returns : goal.returns
unfolding as_records_answer
returns c =
    named_result_value_store_after_table_after_events_after_outcomes_after (let a = c.args in
    let k = a.stakes.now in
    let m : Lent = lent_of a.store.now a.table.now a.work.now a.events.now in
    let o = a.outcomes.now in
    let r = a.records.now in
    let h = sym c.in_ok-lent_refusal.ensures.first in
    calls_feeds k m o r _ _ _ _ _ (refuses_nothing k m o (records_in r) h
    (omega (
      arith,
      c.if-work-table.false,
    )) (omega (
      arith,
      c.if-outcomes-record_count.false,
      c.record_count.ensures,
    ))) c.feed_each-n.ensures)
