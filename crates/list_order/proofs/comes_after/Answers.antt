use mathlib.Core.Path.{sym, ap, ◌∙◌}
use native.Mathlib.Omega.{arith}
use Rattle.record_spec.specs.Reference.{BlockReference, locator, locator_before}
use Rattle.record_spec.proofs.References.{lower_round}
use Rattle.types.specs.Values.{as_reference, as_locator}
use Rattle.record_reference_bytes.specs.Step.{reference_at}
use Rattle.list_order.proofs.Rows.{higher_round}
use Rattle.list_order.proofs.comes_after.Goals as goal

pub returns-then-round-given : goal.returns-then-round-given
unfolding as_locator locator as_reference reference_at
returns-then-round-given c = let a = c.args in
    sym (higher_round (as_locator a.given) (locator (reference_at a.store.now a.at) a.offset)
    (omega (arith, c.if-round-given.true, c.read_u64-round.ensures)))

pub returns-then-given-round : goal.returns-then-given-round
unfolding as_locator locator as_reference reference_at
returns-then-given-round c = let a = c.args in
    sym (lower_round (as_locator a.given) (locator (reference_at a.store.now a.at) a.offset)
    (omega (arith, c.if-given-round.true, c.read_u64-round.ensures)))

pub returns : goal.returns
unfolding as_locator
returns c = let a = c.args in
    c.locator_before.ensures ∙ ap (λ (r : BlockReference). locator_before (as_locator a.given) (locator r a.offset)) c.read_reference-block.ensures
