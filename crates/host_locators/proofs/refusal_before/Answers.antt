use Rattle.base.specs.Refusals.{refusal_number}
use mathlib.Core.Path.{sym, ap, ◌∙◌}
use Rattle.committee.proofs.Answers.{taken_sound, broken_sound}
use Rattle.committee.specs.Answers.{as_new_committee}
use Rattle.host_locators.proofs.Locators.{before_broken, before_disordered, before_lent}
use Rattle.host_locators.proofs.refusal_before.Goals as goal

pub returns-in_default : goal.returns-in_default
returns-in_default c =
    let start = c.args in
    sym (before_broken (refusal_number start.refusal) start.stakes.now start.store.now
    (broken_sound start.stakes.now c.in_default.field-0
    (ap as_new_committee (sym c.in_default.is) ∙ c.new_committee.ensures)))

pub in_order-requires : goal.in_order-requires
in_order-requires c = (taken_sound c.args.stakes.now c.in-Ok.field-0
    (ap as_new_committee (sym c.in-Ok.is) ∙ c.new_committee.ensures)).0

pub returns-then-not-in_order : goal.returns-then-not-in_order
returns-then-not-in_order c =
    let start = c.args in
    sym (before_disordered (refusal_number start.refusal) start.stakes.now start.store.now
    (taken_sound c.args.stakes.now c.in-Ok.field-0
    (ap as_new_committee (sym c.in-Ok.is) ∙ c.new_committee.ensures)).0
    (sym c.in_order.ensures ∙ c.if-not-in_order.true))

pub returns : goal.returns
returns c =
    let start = c.args in
    sym (before_lent (refusal_number start.refusal) start.stakes.now start.store.now
    (taken_sound c.args.stakes.now c.in-Ok.field-0
    (ap as_new_committee (sym c.in-Ok.is) ∙ c.new_committee.ensures)).0
    (sym c.in_order.ensures ∙ c.if-not-in_order.false))
