use mathlib.Core.Path.{◌≡◌, sym, ap, ◌∙◌}
use mathlib.Core.Bool.{true, false}
use Rattle.committee.specs.Answers.{as_new_committee}
use Rattle.committee.specs.Committee.{is_quorum}
use Rattle.committee.proofs.Answers.{taken_sound, broken_sound}
use Rattle.committee_set.specs.AuthoritySet.{united, stake_of}
use Rattle.ring_fewest.specs.Answers.{as_ring}
use Rattle.ring_owners.proofs.Turns.{quorum_is}
use Rattle.ring_owners.proofs.Claimed.{ring_broken, ring_missed, ring_given}
use Rattle.ring_fewest.proofs.fewest_owners.Goals as goal

pub returns-in_default : goal.returns-in_default
unfolding as_ring
returns-in_default c = sym (ring_broken _ _ _
    (broken_sound _ c.in_default.field-0 (ap as_new_committee (sym c.in_default.is) ∙ c.new_committee.ensures)))

pub stake_of-requires : goal.stake_of-requires
stake_of-requires c = (taken_sound c.args.stakes.now
    c.in-Ok.total
    (ap as_new_committee (sym c.in-Ok.is) ∙ c.new_committee.ensures)).0

pub returns-then-not-is_quorum : goal.returns-then-not-is_quorum
unfolding as_ring united
returns-then-not-is_quorum c =
    let start = c.args in
    let taken = taken_sound c.args.stakes.now
    c.in-Ok.total
    (ap as_new_committee (sym c.in-Ok.is) ∙ c.new_committee.ensures) in
    let all : stake_of start.stakes.now (united start.voters start.reachable) ≡ c.stake_of.result.0 = sym
    c.stake_of.ensures in
    let quorum : is_quorum start.stakes.now (stake_of start.stakes.now (united start.voters start.reachable)) ≡ false = rw all
    (sym (quorum_is start.stakes.now _ _ taken.1) ∙ sym c.is_quorum.ensures ∙ c.if-not-is_quorum.true) in
    sym (ring_missed _ _ _ taken.0 quorum)

pub until_quorum-owners-requires : goal.until_quorum-owners-requires
unfolding united
until_quorum-owners-requires c =
    let start = c.args in
    let taken = taken_sound c.args.stakes.now
    c.in-Ok.total
    (ap as_new_committee (sym c.in-Ok.is) ∙ c.new_committee.ensures) in
    let all : stake_of start.stakes.now (united start.voters start.reachable) ≡ c.stake_of.result.0 = sym
    c.stake_of.ensures in
    let quorum : is_quorum start.stakes.now (stake_of start.stakes.now (united start.voters start.reachable)) ≡ true = rw all
    (sym (quorum_is start.stakes.now _ _ taken.1) ∙ sym c.is_quorum.ensures ∙ c.if-not-is_quorum.false) in
    (taken.0, taken.1, quorum)

pub stake_of-stake-requires : goal.stake_of-stake-requires
stake_of-stake-requires c = (taken_sound c.args.stakes.now c.in-Ok.total
    (ap as_new_committee (sym c.in-Ok.is) ∙ c.new_committee.ensures)).0

pub returns : goal.returns
unfolding as_ring united
returns c =
    let start = c.args in
    let taken = taken_sound c.args.stakes.now c.in-Ok.total
    (ap as_new_committee (sym c.in-Ok.is) ∙ c.new_committee.ensures) in
    let all : stake_of start.stakes.now (united start.voters start.reachable) ≡ c.stake_of.result.0 = sym
    c.stake_of.ensures in
    let quorum : is_quorum start.stakes.now (stake_of start.stakes.now (united start.voters start.reachable)) ≡ true = rw all
    (sym (quorum_is start.stakes.now _ _ taken.1) ∙ sym c.is_quorum.ensures ∙ c.if-not-is_quorum.false) in
    rw (c.stake_of-stake.ensures, c.until_quorum-owners.ensures) (sym (ring_given _ _ _ taken.0 quorum))
