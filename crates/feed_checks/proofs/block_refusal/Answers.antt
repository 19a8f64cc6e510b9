use mathlib.Core.Path.{sym, ap, ◌∙◌}
use native.Mathlib.Omega.{arith}
use Rattle.std.proofs.lemmas.Result.{err_from_is_err_and}
use Rattle.base.proofs.Refusals.{number_not_zero}
use Rattle.record_spec.specs.Reference.{BlockReference}
use Rattle.store_spec.specs.Layout.{entries, position_of, lookup}
use Rattle.store_spec.specs.Store.{records_of}
use Rattle.feed_checks.proofs.Feeds.{is_stored_lem, not_stored, block_head, block_stored, block_body, block_missing, block_none}
use Rattle.feed_checks.proofs.block_refusal.Goals as goal

pub returns-in_err-head_refusal : goal.returns-in_err-head_refusal
returns-in_err-head_refusal c =
    let told = c.in_err-head_refusal.ensures in
    let p = err_from_is_err_and c.from_residual.result c.from_residual.ensures.1 in
    rw (p.1, p.2) (told ∙ sym (block_head _ _ _ (λ z. number_not_zero c.in_err-head_refusal.field-0.0 (told ∙ z))))

pub returns-then-find_ordered-ne0 : goal.returns-then-find_ordered-ne0
returns-then-find_ordered-ne0 c = sym (block_stored _ _ _ (sym c.in_ok-head_refusal.ensures)
    (is_stored_lem _ _ _ (c.find_ordered.ensures ∙ ap (λ (z : BlockReference). position_of
    (lookup (entries (records_of c.args.store.now)) z))
    c.reference.ensures) c.if-find_ordered-ne0.true))

pub returns-in_err-body_refusal : goal.returns-in_err-body_refusal
returns-in_err-body_refusal c =
    let told = c.in_err-body_refusal.ensures in
    let p = err_from_is_err_and c.from_residual-in_err-body_refusal.result c.from_residual-in_err-body_refusal.ensures.1 in
    rw (p.1, p.2) (told ∙ sym (block_body _ _ _ (sym c.in_ok-head_refusal.ensures)
    (not_stored _ _ _ (c.find_ordered.ensures ∙ ap
    (λ (z : BlockReference). position_of (lookup (entries (records_of
    c.args.store.now)) z))
    c.reference.ensures) c.if-find_ordered-ne0.false) (λ z. number_not_zero c.in_err-body_refusal.field-0.0 (told ∙ z))))

pub returns-then-first_missing-include_count : goal.returns-then-first_missing-include_count
returns-then-first_missing-include_count c = sym (block_missing _ _ _ (sym c.in_ok-head_refusal.ensures)
    (not_stored _ _ _ (c.find_ordered.ensures ∙ ap
    (λ (z : BlockReference). position_of (lookup (entries (records_of
    c.args.store.now)) z))
    c.reference.ensures) c.if-find_ordered-ne0.false)
    (sym c.in_ok-body_refusal.ensures)
    (omega (arith, c.if-first_missing-include_count.true, c.first_missing.ensures, c.include_count.ensures)))

pub returns : goal.returns
returns c = sym (block_none _ _ _ (sym c.in_ok-head_refusal.ensures)
    (not_stored _ _ _ (c.find_ordered.ensures ∙ ap
    (λ (z : BlockReference). position_of (lookup (entries (records_of
    c.args.store.now)) z))
    c.reference.ensures) c.if-find_ordered-ne0.false)
    (sym c.in_ok-body_refusal.ensures)
    (omega (arith, c.if-first_missing-include_count.false, c.first_missing.ensures, c.include_count.ensures)))
