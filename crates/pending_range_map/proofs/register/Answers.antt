use mathlib.Core.Path.{sym, ap, ◌∙◌}
use native.Mathlib.Omega.{arith}
use borrow.Author.Rules.{rules}
use Rattle.base.proofs.Tests.{not_both}
use Rattle.committee_aggregator.specs.StakeAggregator.{no_votes}
use Rattle.committee_aggregator.proofs.Adding.{vote_fits}
use Rattle.committee_aggregator.proofs.Aggregators.{no_votes_order}
use Rattle.committee.proofs.Answers.{known_sound, unknown_sound}
use Rattle.pending_votes.proofs.Voting.{room_words}
use Rattle.pending_range_map.proofs.Registering.{first_vote_lem}
use Rattle.pending_words.proofs.Moves.{added_table}
use Rattle.pending_words.proofs.Slots.{holds_holding}
use Rattle.pending_range_map.proofs.register.Goals as goal

pub returns-in_default : goal.returns-in_default
returns-in_default c =
    absurd (not_both c.requires.known
    (unknown_sound _ _ (sym c.get_stake.ensures ∙ c.in_default.is)))

pub with_vote-requires : goal.with_vote-requires
with_vote-requires c =
    let start = c in
    let s = known_sound _ _ _ (sym c.get_stake.ensures ∙
    c.in-Some.is) in
    let f = vote_fits _ no_votes _ start.requires.broken (no_votes_order _) start.requires.known in
    (f.0, omega (arith, f.1, s.1, ap (λ g. g.stake) c.new.ensures))

pub put_item-requires : goal.put_item-requires
put_item-requires c =
    let start = c in
    omega (arith, room_words _ _ start.requires.holds start.requires.room)

pub overflow_add-t : goal.overflow_add-t
overflow_add-t c =
    let start = c in
    omega (
      arith,
      c.item_count-n.ensures,
      room_words _ _ start.requires.holds start.requires.room,
      start.well_formed,
    )

pub bounds-t-0 : goal.bounds-t-0
bounds-t-0 c =
    let start = c in
    omega (arith, c.put_item.auto.t, room_words _ _ start.requires.holds start.requires.room)

pub returns : goal.returns
returns c =
    let start = c in
    let s = known_sound _ _ _ (sym c.get_stake.ensures ∙
    c.in-Some.is) in
    rw (c.put_item.ensures, c.item_count-n.ensures)
    (added_table _ _ _ _ (holds_holding _ start.requires.holds) (omega (arith, room_words _ _ start.requires.holds start.requires.room))
    (first_vote_lem _ _ _ _ _ c.with_vote.ensures c.new.ensures s.1))
