use mathlib.Core.Path.{sym, ap, ◌∙◌}
use native.Mathlib.Omega.{arith}
use Rattle.record_spec.specs.Reference.{BlockReference}
use Rattle.types.specs.Values.{as_reference, reference_order}
use Rattle.store_spec.specs.Store.{used_length}
use Rattle.store_spec.proofs.Check.{is_readable}
use Rattle.pending_question.proofs.Lending.{laid_readable}
use Rattle.feed_missed.proofs.Missing.{position_own, position_less, position_greater}
use borrow.Author.Rules.{rules}
use Rattle.feed_events.proofs.voted_position.Goals as goal

pub read_u32-requires : goal.read_u32-requires
read_u32-requires c = omega (arith, (is_readable _ (laid_readable _ c.requires.0)).header.long)

pub returns-in-Equal : goal.returns-in-Equal
unfolding used_length
returns-in-Equal c =
    let o = c in
    let order = sym (ap (λ (z : BlockReference). reference_order z (as_reference o.args.block)) c.reference.ensures) ∙
    sym c.compare-compared.ensures ∙ c.in-Equal.is in
    c.read_u32.ensures ∙ sym (is_readable _ (laid_readable _ o.requires.0)).used ∙ sym (position_own _ _ _ order)

pub returns-in-Less : goal.returns-in-Less
returns-in-Less c =
    let o = c in
    let order = sym (ap (λ (z : BlockReference). reference_order z (as_reference o.args.block)) c.reference.ensures) ∙
    sym c.compare-compared.ensures ∙ c.in-Less.is in
    c.find_ordered.ensures ∙ sym (position_less _ _ _ order)

pub returns-in-Greater : goal.returns-in-Greater
returns-in-Greater c =
    let o = c in
    let order = sym (ap (λ (z : BlockReference). reference_order z (as_reference o.args.block)) c.reference.ensures) ∙
    sym c.compare-compared.ensures ∙ c.in-Greater.is in
    c.find_ordered-in-Greater.ensures ∙ sym (position_greater _ _ _ order)
