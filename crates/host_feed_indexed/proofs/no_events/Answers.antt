use mathlib.Core.Path.{sym, ap, ◌∙◌}
use Rattle.base.specs.Refusals.{refusal_in}
use Rattle.base.proofs.Refusals.{number_not_zero}
use Rattle.host_feed_indexed.proofs.Sizes.{early_refused, early_passed}
use Rattle.host_feed_indexed.proofs.no_events.Goals as goal

pub returns-in-Err : goal.returns-in-Err
returns-in-Err c =
    let a = c.args in
    let e = ap refusal_in (sym c.in-Err.is) ∙ c.early_refusal.ensures in
    e ∙ sym (early_refused a.stakes.now a.store.now a.table.now a.index.now a.rec.now (λ k. number_not_zero c.in-Err.early (e ∙ k)))

pub returns : goal.returns
returns c =
    let a = c.args in
    sym (early_passed a.stakes.now a.store.now a.table.now a.index.now a.rec.now (sym c.early_refusal.ensures ∙ ap refusal_in c.in_default.is))
