use mathlib.Core.Path.{sym, ap, ◌∙◌}
use Rattle.base.specs.Refusals.{refusal_number, refusal_in}
use Rattle.base.proofs.Refusals.{number_not_zero}
use Rattle.host_index_finals.proofs.Stretched.{indexed_first, indexed_then}
use Rattle.host_index_finals.proofs.refusal_indexed.Goals as goal

pub returns-in-Err : goal.returns-in-Err
returns-in-Err c =
    let a = c.args in
    let e = ap refusal_in (sym c.in-Err.is) ∙ c.indexed_refusal.ensures in
    e ∙ indexed_first (refusal_number a.refusal) a.stakes.now a.store.now a.index.now (λ k. number_not_zero c.in-Err.lent (e ∙ k))

pub returns : goal.returns
returns c =
    let a = c.args in
    indexed_then (refusal_number a.refusal) a.stakes.now a.store.now a.index.now (sym c.indexed_refusal.ensures ∙ ap refusal_in c.in_default.is)
