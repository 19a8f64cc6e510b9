use mathlib.Core.Path.{refl, sym, ap, ◌∙◌}
use Rattle.std.proofs.lemmas.Result.{err_from_is_err_and}
use Rattle.base.specs.Checks.{refused}
use Rattle.base.proofs.Refusals.{number_not_zero}
use Rattle.pending_question.specs.Answers.{as_pending}
use Rattle.pending_question.proofs.Lending.{lying, lying_holds, answers_refusal, answers_standing}
use Rattle.pending_question.proofs.pending.Goals as goal

pub returns-in_err-lent_refusal : goal.returns-in_err-lent_refusal
unfolding as_pending
returns-in_err-lent_refusal c =
    let told = c.in_err-lent_refusal.ensures.first in
    let p = err_from_is_err_and c.from_residual.result c.from_residual.ensures.1 in
    rw (p.1, p.2) (ap refused told ∙ sym (answers_refusal _ _ _ _ (λ z. number_not_zero c.in_err-lent_refusal.field-0.0 (told ∙ z))))

pub standing-requires : goal.standing-requires
standing-requires c =
    let s = c.args.store.now in
    let h = lying _ s _ (sym c.in_ok-lent_refusal.ensures.first) in
    (c.in_ok-lent_refusal.ensures.laid refl, lying_holds _ s _ h.table)

pub returns : goal.returns
returns c = c.standing.ensures ∙ sym (answers_standing _ _ _ _ (sym c.in_ok-lent_refusal.ensures.first))
