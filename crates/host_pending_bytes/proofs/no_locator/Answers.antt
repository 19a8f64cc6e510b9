use mathlib.Core.Path.{sym, ap, ◌∙◌}
use Rattle.base.specs.Refusals.{refusal_in}
use Rattle.base.proofs.Refusals.{number_not_zero}
use Rattle.host_pending_bytes.proofs.Standings.{table_refused, table_lent}
use Rattle.host_pending_bytes.proofs.no_locator.Goals as goal

pub returns-in-Err : goal.returns-in-Err
returns-in-Err c =
    let start = c.args in
    let e = ap refusal_in (sym c.in-Err.is) ∙ c.lent_refusal.ensures.first in
    e ∙ sym (table_refused start.stakes.now start.store.now start.table.now (λ k. number_not_zero c.in-Err.refusal (e ∙ k)))

pub returns : goal.returns
returns c =
    let start = c.args in
    sym (table_lent start.stakes.now start.store.now start.table.now (sym c.lent_refusal.ensures.first ∙ ap refusal_in c.in_default.is))
