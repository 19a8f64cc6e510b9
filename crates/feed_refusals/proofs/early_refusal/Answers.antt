use mathlib.Core.Path.{refl, sym, ap, ◌∙◌}
use native.Mathlib.Omega.{arith}
use Rattle.std.proofs.lemmas.Result.{err_from_is_err_and}
use Rattle.base.proofs.Refusals.{number_not_zero}
use lib.ListN.{length}
use Rattle.pending_question.proofs.Lending.{lying}
use Rattle.final_block_votes.proofs.Along.{sorted_count}
use Rattle.feed_refusals.proofs.Early.{early_lent, early_malformed, early_rules}
use Rattle.feed_refusals.proofs.early_refusal.Goals as goal

pub returns-in_err-lent_refusal : goal.returns-in_err-lent_refusal
returns-in_err-lent_refusal c =
    let told = c.in_err-lent_refusal.ensures.first in
    let p = err_from_is_err_and c.from_residual.result c.from_residual.ensures.1 in
    rw (p.1, p.2) (told ∙ sym (early_lent _ _ _ _ (λ z. number_not_zero c.in_err-lent_refusal.field-0.0 (told ∙ z))))

pub returns-then-not-well_formed : goal.returns-then-not-well_formed
returns-then-not-well_formed c = sym (early_malformed _ _ _ _ (sym c.in_ok-lent_refusal.ensures.first)
    (sym c.well_formed-2.ensures ∙ c.if-not-well_formed.true))

pub sorted_positions-count-requires : goal.sorted_positions-count-requires
sorted_positions-count-requires c = (c.in_ok-lent_refusal.ensures.laid refl, omega arith)

pub slice_bounds-block_refusal-end : goal.slice_bounds-block_refusal-end
slice_bounds-block_refusal-end c =
    let q = c.sorted_positions-count.ensures in
    q.1.0 ∙ sym (ap length q.1.1 ∙ sorted_count _ (c.in_ok-lent_refusal.ensures.laid refl))

pub block_refusal-requires : goal.block_refusal-requires
block_refusal-requires c =
    let e = c.in_ok-lent_refusal.ensures in (
      (lying _ _ _ (sym e.first)).committee,
      e.laid refl,
      sym c.well_formed-2.ensures ∙ c.if-not-well_formed.false,
      c.sorted_positions-count.ensures.1.1,
    )

pub returns : goal.returns
returns c = c.block_refusal.ensures ∙ sym (early_rules _ _ _ _
    (sym c.in_ok-lent_refusal.ensures.first) (sym c.well_formed-2.ensures ∙ c.if-not-well_formed.false))
