use mathlib.Core.Bool.{true, false}
use mathlib.Core.Path.{refl, sym, ◌∙◌}
use Rattle.base.proofs.Tests.{not_both}
use Rattle.pending_form.proofs.Forming.{same_laid, formed_tests}
use Rattle.pending_form.proofs.table_formed.Goals as goal

pub returns-then-not-laid_out : goal.returns-then-not-laid_out
returns-then-not-laid_out c =
    formed_tests _ _ false false false (sym (c.if-not-laid_out.true) ∙ c.laid_out.ensures) (λ h. absurd (not_both h refl))
    (λ h. absurd (not_both h refl))

pub ascending-requires : goal.ascending-requires
ascending-requires c = same_laid _ (sym c.laid_out.ensures ∙ c.if-not-laid_out.false)

pub returns-then-not-ascending : goal.returns-then-not-ascending
returns-then-not-ascending c =
    formed_tests _ _ true false false (sym (c.if-not-laid_out.false) ∙ c.laid_out.ensures)
    (λ h. sym (c.if-not-ascending.true) ∙ c.ascending.ensures) (λ h k. absurd (not_both k refl))

pub votes_in_order-requires : goal.votes_in_order-requires
votes_in_order-requires c = (
  c.requires,
  same_laid _
      (sym c.laid_out.ensures ∙ c.if-not-laid_out.false),
)

pub returns : goal.returns
returns c =
    formed_tests _ _ true true _ (sym (c.if-not-laid_out.false) ∙ c.laid_out.ensures)
    (λ h. sym (c.if-not-ascending.false) ∙ c.ascending.ensures) (λ h k. c.votes_in_order.ensures)
