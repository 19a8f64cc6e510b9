use mathlib.Core.Path.{refl, sym}
use native.Mathlib.Omega.{arith}
use Rattle.std.proofs.lemmas.Result.{err_from_is_err_and}
use Rattle.base.proofs.Le.{bytes_of}
use Rattle.base.proofs.Refusals.{number_not_zero}
use Rattle.feed_spec.specs.Feed.{Lent, lent_of}
use Rattle.feed_single.specs.Answers.{as_feed_answer}
use Rattle.index_growth.specs.Growing.{Grew}
use Rattle.index_feed_single.proofs.Growing.{growing}
use Rattle.index_feed_single.proofs.Giving.{gives_record, gives_short, gives_acceptance}
use Rattle.index_feed_single.proofs.feed_agreed.Goals as goal

named_result_value_store_after_table_after_index_after_events_after : {P0 P1 P2 P3 P4 : Type 0} → P0 × (P1 × (P2 × (P3 × P4)))
    → record { result_value : P0; store_after : P1; table_after : P2; index_after : P3; events_after : P4 }
named_result_value_store_after_table_after_index_after_events_after p = record
    { result_value = p.0; store_after = p.1.0; table_after = p.1.1.0; index_after = p.1.1.1.0; events_after = p.1.1.1.1 }

pub record_refusal-requires : goal.record_refusal-requires
record_refusal-requires c = let a = c.requires in (
  a.lent,
  a.laid,
  a.sorted.places,
)

pub returns-in_err-record_refusal : goal.returns-in_err-record_refusal
unfolding as_feed_answer
returns-in_err-record_refusal c =
    let a = c.args in
    let m : Lent = lent_of a.store.now a.table.now a.work.now a.events.now in
    let e = c.in_err-record_refusal.ensures in
    let p = err_from_is_err_and c.from_residual.result c.from_residual.ensures.1 in
    rw (p.1, p.2, e.kept) (named_result_value_store_after_table_after_index_after_events_after (gives_record a.stakes.now m a.index.now a.rec.now
    c.requires.agrees _ e.first (number_not_zero c.in_err-record_refusal.field-0.0)))

pub grow-requires : goal.grow-requires
grow-requires c = let a = c.args in
    let e = c.in_ok-record_refusal.ensures in
    growing a.stakes.now a.store.now a.rec.now a.table.now a.index.now a.order.now a.starts.now c.requires
    (e.accepting refl).checked (bytes_of a.rec.now (λ i h. omega (
      arith,
      c.shared_slice_known-4-1.given i,
    )))

pub returns-in_err-grow : goal.returns-in_err-grow
unfolding as_feed_answer Grew
returns-in_err-grow c =
    let a = c.args in
    let m : Lent = lent_of a.store.now a.table.now a.work.now a.events.now in
    let e = c.in_ok-record_refusal.ensures in
    let w = c.in_err-grow.ensures in
    let p = err_from_is_err_and c.from_residual-in_err-grow.result c.from_residual-in_err-grow.ensures.1 in
    rw (p.1, p.2, e.kept, w.1, w.2) (named_result_value_store_after_table_after_index_after_events_after (gives_short a.stakes.now m a.index.now
    a.rec.now c.requires.agrees (e.accepting refl).checked.formed (sym e.first) w.0))

pub accept-requires : goal.accept-requires
accept-requires c = let e = c.in_ok-record_refusal.ensures in record
    { accepting = rw e.kept (e.accepting refl); order = c.requires.sorted.places }

pub returns : goal.returns
unfolding as_feed_answer Grew
returns c = named_result_value_store_after_table_after_index_after_events_after (let a = c.args in
    let m : Lent = lent_of a.store.now a.table.now a.work.now a.events.now in
    let e = c.in_ok-record_refusal.ensures in
    let w = c.accept.ensures in
    let g = c.in_ok-grow.ensures in
    gives_acceptance a.stakes.now m a.index.now a.rec.now c.requires.agrees (e.accepting refl).checked.formed
    (sym e.first) g.0 _ _ _ _ _ (rw e.kept at w) g.1)
