use mathlib.Core.Path.{refl, sym, ◌∙◌}
use native.Mathlib.Omega.{arith}
use lib.Seq.{length-take-le}
use Rattle.std.proofs.lemmas.Result.{err_from_is_err_and}
use Rattle.base.proofs.Refusals.{number_not_zero}
use Rattle.store_spec.specs.Layout.{read_record}
use Rattle.feed_spec.specs.Feed.{Lent, lent_of}
use Rattle.feed_single.specs.Answers.{as_feed_answer}
use Rattle.index_feed_spec.proofs.Order.{lent_refuses}
use Rattle.index_feed_single.proofs.Giving.{gives_refusal}
use Rattle.index_feed_single.proofs.feed_indexed.Goals as goal

pub slice_bounds-lent_refusal-end : goal.slice_bounds-lent_refusal-end
slice_bounds-lent_refusal-end c = refl

pub slice_bounds-lent_refusal-end-2 : goal.slice_bounds-lent_refusal-end-2
slice_bounds-lent_refusal-end-2 c = refl

pub lent_refusal-requires : goal.lent_refusal-requires
lent_refusal-requires c = (omega arith, omega arith)

pub returns-in_err-count : goal.returns-in_err-count
unfolding as_feed_answer
returns-in_err-count c =
    let a = c.args in
    let k = a.stakes.now in
    let r = a.rec.now in
    let m : Lent = lent_of a.store.now a.table.now a.work.now a.events.now in
    let told = c.in_err-count.ensures.refusal_value in
    let some = number_not_zero c.in_err-count.field-0.0 in
    let p = err_from_is_err_and c.from_residual.result c.from_residual.ensures.1 in
    let g = gives_refusal k m a.index.now r _ (told ∙ sym (lent_refuses k m a.index.now (read_record r) (λ z. some (told ∙ z)))) some in
    record { result_value = rw (p.1, p.2) g.0; store_after = g.1.0; table_after = g.1.1.0; index_after = g.1.1.1.0; events_after = g.1.1.1.1 }

pub slice_bounds-order-end : goal.slice_bounds-order-end
slice_bounds-order-end c = omega (arith, c.in_ok-count.ensures.count_bound.0)

pub slice_bounds-feed_agreed-end : goal.slice_bounds-feed_agreed-end
slice_bounds-feed_agreed-end c = sym (length-take-le _ _ (omega (arith, c.in_ok-count.ensures.count_bound.0)))

pub feed_agreed-requires : goal.feed_agreed-requires
feed_agreed-requires c = c.in_ok-count.ensures.count_bound.1
