use mathlib.Core.Path.{sym, ◌∙◌}
use native.Mathlib.Omega.{arith}
use Rattle.committee.specs.Committee.{get_stake}
use Rattle.committee.proofs.Bounds.{few_members, total_most}
use Rattle.committee_set.specs.AuthoritySet.{inserted}
use Rattle.committee_set.proofs.Sums.{stake_most}
use Rattle.ring_owners.proofs.Turns.{someone, first_known, quorum_is, held_more, counted_more, ringing_start, ringing_turn, ringing_end}
use Rattle.ring_fewest.proofs.until_quorum.Goals as goal

pub loop-total-init : goal.loop-total-init
loop-total-init c =
    let start = c in
    rw c.new-owners.ensures (ringing_start start.args.stakes.now _ _ _ c.stake_of-stake.ensures start.requires.2)

pub next_to_ring-best-requires : goal.next_to_ring-best-requires
next_to_ring-best-requires c =
    let start = c in
    let l = start.args.stakes.now in
    let at = c.loop-total in
    let missed = sym (quorum_is l _ at.stake start.requires.1) ∙ sym c.is_quorum.ensures ∙ c.loop-total-test.true in
    (start.requires.0, someone l (few_members l start.requires.0) _ _ (rw at.invariant.held at missed) at.invariant.all)

pub insert-owners-requires : goal.insert-owners-requires
insert-owners-requires c =
    let start = c in
    let l = start.args.stakes.now in
    let below = first_known l _ _ _ c.next_to_ring-best.ensures in
    omega (arith, below, few_members l start.requires.0)

pub insert-counted-requires : goal.insert-counted-requires
insert-counted-requires c =
    let start = c in
    let l = start.args.stakes.now in
    let below = first_known l _ _ _ c.next_to_ring-best.ensures in
    omega (arith, below, few_members l start.requires.0)

pub offset_bounds-stakes-best : goal.offset_bounds-stakes-best
offset_bounds-stakes-best c =
    let start = c in
    let l = start.args.stakes.now in
    let below = first_known l _ _ _ c.next_to_ring-best.ensures in
    omega (arith, below, few_members l start.requires.0)

pub bounds-stakes-best : goal.bounds-stakes-best
bounds-stakes-best c =
    first_known c.args.stakes.now _ _ _
    c.next_to_ring-best.ensures

pub overflow_add-stake : goal.overflow_add-stake
unfolding get_stake
overflow_add-stake c =
    let start = c in
    let l = start.args.stakes.now in
    let at = c.loop-total in
    let more = held_more l at.counted _ _ c.next_to_ring-best.ensures in
    omega (arith, more, at.invariant.held, stake_most l (inserted at.counted c.next_to_ring-best.result), total_most l start.requires.0)

pub loop-total-smaller : goal.loop-total-smaller
loop-total-smaller c =
    let start = c in
    let l = start.args.stakes.now in
    let next = c.next_to_ring-best.ensures in
    let below = first_known l _ _ _ next in
    rw c.insert-counted.ensures (counted_more l c.loop-total.counted _ _ next
    (omega (arith, below, few_members l start.requires.0)))

pub loop-total-preserved : goal.loop-total-preserved
unfolding get_stake
loop-total-preserved c =
    let start = c in
    let l = start.args.stakes.now in
    let at = c.loop-total in
    let missed = sym (quorum_is l _ at.stake start.requires.1) ∙ sym c.is_quorum.ensures ∙ c.loop-total-test.true in
    rw (c.insert-owners.ensures, c.insert-counted.ensures)
    (ringing_turn l _ _ at.owners at.counted at.stake at.invariant (few_members l start.requires.0) missed _
    c.next_to_ring-best.ensures)

pub returns : goal.returns
returns c =
    let start = c in
    let l = start.args.stakes.now in
    let at = c.loop-total in
    let held = sym (quorum_is l _ at.stake start.requires.1) ∙ sym c.is_quorum.ensures ∙ c.loop-total-test.false in
    ringing_end l _ _ at.owners at.counted at.stake at.invariant held
