use Rattle.committee_aggregator.proofs.Adding.{refused_sound, add_broken, add_disordered, add_unknown, added_sound, vote_fits}
use Rattle.committee.proofs.Answers.{taken_sound, broken_sound, known_sound, unknown_sound}
use Rattle.committee.specs.Answers.{as_new_committee}
use Rattle.committee_aggregator.specs.Answers.{as_aggregator}
use Rattle.committee_aggregator.specs.StakeAggregator.{counted}
use Rattle.committee.specs.Committee.{is_quorum}
use mathlib.Core.Path.{sym, ap, ◌∙◌}
use Rattle.committee_aggregator.proofs.StakeAggregator.add.Goals as goal

pub returns-in_default : goal.returns-in_default
returns-in_default c =
    let start = c.args in
    refused_sound _ _ _ c.refused.ensures ∙ sym (add_broken _ _ _
    (broken_sound start.stakes.now c.in_default.field-0 (ap as_new_committee (sym c.in_default.is) ∙ c.new_committee.ensures)))

pub in_order-requires : goal.in_order-requires
in_order-requires c =
    (taken_sound c.args.stakes.now c.in-Ok.total c.in-Ok.ensures).0

pub returns-then-not-in_order : goal.returns-then-not-in_order
returns-then-not-in_order c =
    let start = c.args in
    let taken = taken_sound start.stakes.now c.in-Ok.total c.in-Ok.ensures in
    refused_sound _ _ _ c.refused-then-not-in_order.ensures ∙ sym (add_disordered _ _ _ taken.0
    (sym c.in_order.ensures ∙ c.if-not-in_order.true))

pub returns-in_default-get_stake : goal.returns-in_default-get_stake
returns-in_default-get_stake c =
    let start = c.args in
    let taken = taken_sound start.stakes.now c.in-Ok.total c.in-Ok.ensures in
    let ordered = sym c.in_order.ensures ∙ c.if-not-in_order.false in
    let unknown = unknown_sound start.stakes.now start.vote.0 (sym c.get_stake.ensures ∙ c.in_default-get_stake.is) in
    refused_sound _ _ _ c.refused-in_default-get_stake.ensures ∙ sym (add_unknown _ _ _ taken.0 ordered unknown)

pub with_vote-next-requires : goal.with_vote-next-requires
with_vote-next-requires c =
    let start = c.args in
    let taken = taken_sound start.stakes.now c.in-Ok.total c.in-Ok.ensures in
    let ordered = sym c.in_order.ensures ∙ c.if-not-in_order.false in
    let knows = known_sound start.stakes.now start.vote.0 c.in-Some.stake (sym c.in-Some.ensures) in
    let fits = vote_fits start.stakes.now (as_aggregator start.self) start.vote.0 taken.0 ordered knows.0 in
    (fits.0, rw knows.1 fits.1)

pub returns : goal.returns
unfolding counted is_quorum
returns c =
    let start = c.args in
    let taken = taken_sound start.stakes.now c.in-Ok.total c.in-Ok.ensures in
    let ordered = sym c.in_order.ensures ∙ c.if-not-in_order.false in
    let knows = known_sound start.stakes.now start.vote.0 c.in-Some.stake (sym c.in-Some.ensures) in
    let next = c.with_vote-next.result in
    added_sound start.stakes.now (as_aggregator start.self) start.vote.0 next c.told.result taken.0 ordered knows.0
    (c.with_vote-next.ensures ∙ rw knows.1)
    (c.told.ensures ∙ rw (
      c.contains-repeated.ensures,
      c.is_quorum-before.ensures,
      c.is_quorum-now.ensures,
      taken.1,
    ))
