use mathlib.Core.Path.{refl, sym, ap, ◌∙◌}
use Rattle.std.proofs.lemmas.Result.{err_from_is_err_and}
use Rattle.base.specs.Checks.{refused}
use Rattle.base.proofs.Refusals.{number_not_zero}
use Rattle.ring_fewest.specs.Answers.{as_ring}
use Rattle.pending_question.proofs.Lending.{lying, lying_holds}
use Rattle.ring_pending.proofs.Asked.{asked_refused, asked_at}
use Rattle.ring_pending.proofs.whom_to_ring.Goals as goal

pub returns-in_err-lent_refusal : goal.returns-in_err-lent_refusal
unfolding as_ring
returns-in_err-lent_refusal c =
    let told = c.in_err-lent_refusal.ensures.first in
    let p = err_from_is_err_and c.from_residual.result c.from_residual.ensures.1 in
    rw (p.1, p.2) (ap refused told ∙ sym (asked_refused _ _ _ _ _ (λ z. number_not_zero c.in_err-lent_refusal.field-0.0 (told ∙ z))))

pub ring_at-requires : goal.ring_at-requires
ring_at-requires c =
    let s = c.args.store.now in
    let h = lying _ s _ (sym c.in_ok-lent_refusal.ensures.first) in
    (c.in_ok-lent_refusal.ensures.laid refl, lying_holds _ s _ h.table)

pub returns : goal.returns
returns c = c.ring_at.ensures ∙ sym (asked_at _ _ _ _ _ (sym c.in_ok-lent_refusal.ensures.first))
