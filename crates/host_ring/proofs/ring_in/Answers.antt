use Rattle.std.proofs.lemmas.Result.{err_from_is_err_and}
use Rattle.base.proofs.Refusals.{number_not_zero}
use mathlib.Core.Path.{refl, sym, ap, ◌∙◌}
use Rattle.base.specs.Checks.{refused}
use Rattle.ring_fewest.specs.Answers.{as_ring}
use Rattle.pending_question.proofs.Lending.{lying, lying_holds}
use Rattle.host_locators.proofs.Locators.{locator_none, locator_read}
use Rattle.host_ring.proofs.Rings.{in_refused, in_none, in_small, in_asked}
use Rattle.host_ring.proofs.ring_in.Goals as goal

pub returns-in_err-lent_refusal : goal.returns-in_err-lent_refusal
unfolding as_ring
returns-in_err-lent_refusal c =
    let e = c.in_err-lent_refusal.ensures.first in
    let p = err_from_is_err_and c.from_residual.result c.from_residual.ensures.1 in
    rw (p.1, p.2) (ap refused e ∙ sym (in_refused _ _ _ _ _ _ (λ z. number_not_zero c.in_err-lent_refusal.field-0.0 (e ∙ z))))

pub returns-then-locator-ne-LOCATOR_BYTES : goal.returns-then-locator-ne-LOCATOR_BYTES
unfolding as_ring
returns-then-locator-ne-LOCATOR_BYTES c =
    let o = c.args in
    let z = sym c.in_ok-lent_refusal.ensures.first in
    rw (locator_none o.locator.now c.if-locator-ne-LOCATOR_BYTES.true) (sym (in_none _ _ _ _ z _))

pub returns-then-room-ne24 : goal.returns-then-room-ne24
unfolding as_ring
returns-then-room-ne24 c =
    let o = c.args in
    let z = sym c.in_ok-lent_refusal.ensures.first in
    rw (locator_read o.locator.now c.if-locator-ne-LOCATOR_BYTES.false) (sym (in_small _ _ _ _ z _ _ c.if-room-ne24.true))

pub ring_at-requires : goal.ring_at-requires
ring_at-requires c =
    let s = c.args.store.now in
    let e = c.in_ok-lent_refusal.ensures in
    (e.laid refl, lying_holds _ s _ (lying _ s _ (sym e.first)).table)

pub returns : goal.returns
returns c =
    let o = c.args in
    let z = sym c.in_ok-lent_refusal.ensures.first in
    rw (
      locator_read o.locator.now c.if-locator-ne-LOCATOR_BYTES.false,
      in_asked o.stakes.now o.store.now o.table.now o.reachable z
          o.room _ c.if-room-ne24.false,
      ← c.read_locator.ensures,
    ) c.ring_at.ensures
