use mathlib.Core.Path.{refl, sym, ◌∙◌}
use Prim.Native.Nat.{ℕ}
use native.Mathlib.Omega.{arith}
use lib.ListN.{length-replicate}
use lib.Seq.{length-take-le}
use Rattle.std.proofs.lemmas.Result.{err_from_is_err_and}
use Rattle.base.proofs.Refusals.{number_not_zero}
use Rattle.index_feed_refusals.proofs.Early.{early_lent, early_malformed, early_rules}
use Rattle.index_feed_refusals.proofs.early_refusal.Goals as goal

pub slice_bounds-lent_refusal-end : goal.slice_bounds-lent_refusal-end
slice_bounds-lent_refusal-end c = refl

pub slice_bounds-lent_refusal-end-2 : goal.slice_bounds-lent_refusal-end-2
slice_bounds-lent_refusal-end-2 c = refl

pub lent_refusal-requires : goal.lent_refusal-requires
lent_refusal-requires c = (omega arith, omega arith)

pub returns-in_err-count : goal.returns-in_err-count
returns-in_err-count c =
    let a = c.args in
    let n = c.in_err-count.field-0.0 in
    let p = err_from_is_err_and c.from_residual.result c.from_residual.ensures.1 in
    let e = c.in_err-count.ensures.refusal_value in
    rw (p.1, p.2) (e ∙ sym (early_lent a.stakes.now a.store.now a.table.now a.index.now a.rec.now (λ z. number_not_zero n (e ∙ z))))

pub returns-then-not-well_formed : goal.returns-then-not-well_formed
returns-then-not-well_formed c = let a = c.args in
    sym (early_malformed a.stakes.now a.store.now a.table.now a.index.now a.rec.now
    (sym c.in_ok-count.ensures.refusal_value)
    (sym c.well_formed-2.ensures ∙ c.if-not-well_formed.true))

pub slice_bounds-order-end : goal.slice_bounds-order-end
slice_bounds-order-end c =
    omega (arith, c.in_ok-count.ensures.count_bound.0, c.lent_refusal.auto.order, length-replicate {A = ℕ} 1024 0)

pub slice_bounds-block_refusal-end : goal.slice_bounds-block_refusal-end
slice_bounds-block_refusal-end c =
    sym (length-take-le _ _ (omega (arith, c.in_ok-count.ensures.count_bound.0, c.lent_refusal.auto.order, length-replicate {A = ℕ} 1024 0)))

pub block_refusal-requires : goal.block_refusal-requires
block_refusal-requires c =
    let g = c.in_ok-count.ensures.count_bound.1 in
    (g.sorted.sound, g.laid, sym c.well_formed-2.ensures ∙ c.if-not-well_formed.false, g.sorted.places)

pub returns : goal.returns
returns c =
    let a = c.args in
    c.block_refusal.ensures
    ∙ sym (early_rules a.stakes.now a.store.now a.table.now a.index.now a.rec.now
    (sym c.in_ok-count.ensures.refusal_value)
    (sym c.well_formed-2.ensures ∙ c.if-not-well_formed.false))
