use mathlib.Core.Path.{refl, sym, ap, ◌∙◌}
use lib.ListN.{length}
use Rattle.std.proofs.lemmas.Result.{err_from_is_err_and}
use Rattle.base.proofs.Refusals.{number_not_zero}
use Rattle.feed_spec.specs.Feed.{Lent, lent_of}
use Rattle.final_block_votes.proofs.Along.{sorted_count}
use Rattle.feed_single.specs.Answers.{as_feed_answer}
use Rattle.feed_single.proofs.Giving.{gives_refusal, gives_acceptance}
use Rattle.feed_single.proofs.feed_in_order.Goals as goal

named_result_value_store_after_table_after_events_after : {P0 P1 P2 P3 : Type 0} → P0 × (P1 × (P2 × P3))
    → record { result_value : P0; store_after : P1; table_after : P2; events_after : P3 }
named_result_value_store_after_table_after_events_after p = record { result_value = p.0; store_after = p.1.0; table_after = p.1.1.0; events_after = p.1.1.1 }

pub slice_bounds-record_refusal-end : goal.slice_bounds-record_refusal-end
slice_bounds-record_refusal-end c =
    let q = c.sorted_positions-count.ensures in
    q.1.0 ∙ sym (ap length q.1.1 ∙ sorted_count _ c.requires.1)

pub returns-in_err-record_refusal : goal.returns-in_err-record_refusal
unfolding as_feed_answer
returns-in_err-record_refusal c =
    let a = c.args in
    let m : Lent = lent_of a.store.now a.table.now a.work.now a.events.now in
    let e = c.in_err-record_refusal.ensures in
    let p = err_from_is_err_and c.from_residual.result c.from_residual.ensures.1 in
    let g = gives_refusal a.stakes.now m a.rec.now _ e.first (number_not_zero c.in_err-record_refusal.field-0.0) in
    record { result_value = rw (p.1, p.2) g.0; store_after = g.1.0; table_after = g.1.1.0; events_after = rw e.kept g.1.1.1 }

pub slice_bounds-accept-end : goal.slice_bounds-accept-end
slice_bounds-accept-end c =
    let q = c.sorted_positions-count.ensures in
    q.1.0 ∙ sym (ap length q.1.1 ∙ sorted_count _ c.requires.1)

pub accept-requires : goal.accept-requires
accept-requires c =
    let e = c.in_ok-record_refusal.ensures in record
    { accepting = rw e.kept (e.accepting refl); order = c.sorted_positions-count.ensures.1.1 }

pub returns : goal.returns
unfolding as_feed_answer
returns c =
    named_result_value_store_after_table_after_events_after (let a = c.args in
    let m : Lent = lent_of a.store.now a.table.now a.work.now a.events.now in
    let e = c.in_ok-record_refusal.ensures in
    let w = c.accept.ensures in
    gives_acceptance a.stakes.now m a.rec.now _ _ _ _ (e.accepting refl).checked.formed (sym e.first) (rw e.kept at w))
