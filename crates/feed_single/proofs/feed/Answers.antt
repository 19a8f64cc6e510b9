use mathlib.Core.Path.{refl, sym, ◌∙◌}
use Rattle.std.proofs.lemmas.Result.{err_from_is_err_and}
use Rattle.base.proofs.Refusals.{number_not_zero}
use Rattle.store_spec.specs.Layout.{read_record}
use Rattle.feed_spec.specs.Feed.{Lent, lent_of}
use Rattle.feed_single.specs.Answers.{as_feed_answer}
use Rattle.feed_refusals.proofs.Order.{feeds_lent}
use Rattle.feed_single.proofs.Giving.{gives_refusal}
use Rattle.feed_single.proofs.feed.Goals as goal

pub returns-in_err-lent_refusal : goal.returns-in_err-lent_refusal
unfolding as_feed_answer
returns-in_err-lent_refusal c =
    let a = c.args in
    let k = a.stakes.now in
    let r = a.rec.now in
    let m : Lent = lent_of a.store.now a.table.now a.work.now a.events.now in
    let told = c.in_err-lent_refusal.ensures.first in
    let some = number_not_zero c.in_err-lent_refusal.field-0.0 in
    let p = err_from_is_err_and c.from_residual.result c.from_residual.ensures.1 in
    let g = gives_refusal k m r _ (told ∙ sym (feeds_lent k m (read_record r) (λ z. some (told ∙ z)))) some in
    record { result_value = rw (p.1, p.2) g.0; store_after = g.1.0; table_after = g.1.1.0; events_after = g.1.1.1 }

pub feed_in_order-requires : goal.feed_in_order-requires
feed_in_order-requires c =
    let e = c.in_ok-lent_refusal.ensures in
    (sym e.first, e.laid refl)
