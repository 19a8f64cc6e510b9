use mathlib.Core.Path.{refl, sym, ap, ◌∙◌}
use native.Mathlib.Omega.{arith}
use Rattle.base.proofs.Tests.{not_both}
use Rattle.committee.specs.Answers.{as_new_committee}
use Rattle.committee.proofs.Answers.{taken_sound, broken_sound}
use Rattle.store_spec.specs.Store.{used_length}
use Rattle.store_spec.proofs.Accepted.{known_author}
use Rattle.store_spec.proofs.Check.{is_readable}
use Rattle.pending_question.proofs.Lending.{laid_readable}
use Rattle.feed_counted_vote.proofs.Votes.{order_holds}
use Rattle.feed_checks.proofs.Process.{statements_pass}
use Rattle.feed_aggregator.proofs.Process.{added_orderly, process_stop, process_voting, process_done}
use borrow.Author.Rules.{rules}
use Rattle.feed_aggregator.proofs.process_block.Goals as goal

named_lent_checked_room_order : {P0 P1 P2 P3 : Type 0} → P0 × (P1 × (P2 × P3)) → record { lent : P0; checked : P1; room : P2; order : P3 }
named_lent_checked_room_order p = record { lent = p.0; checked = p.1.0; room = p.1.1.0; order = p.1.1.1 }

pub returns-in_default : goal.returns-in_default
returns-in_default c = absurd (not_both
    (broken_sound _ _ c.in_default.ensures)
    c.requires.lent.committee)

pub read_u32-p-requires : goal.read_u32-p-requires
read_u32-p-requires c = omega (
  arith,
  (is_readable _ (laid_readable _
      c.requires.lent.store)).header.long,
)

pub register_shares-requires : goal.register_shares-requires
unfolding used_length
register_shares-requires c =
    let o = c in
    let h = o.requires.lent in
    let p = c.read_u32-p.ensures ∙ sym (is_readable _ (laid_readable _ o.requires.lent.store)).used in
    record { committee = (h.committee, known_author _ _ _ h.checks); formed = h.formed; table = (order_holds _ _ _ h.table, rw p (added_orderly _ _ _ _ h)) }

pub returns-then-not-register_shares : goal.returns-then-not-register_shares
unfolding used_length
returns-then-not-register_shares c =
    let o = c in
    let p = c.read_u32-p.ensures ∙ sym (is_readable _ (laid_readable _ o.requires.lent.store)).used in
    process_stop _ _ _ _ o.requires.lent _ _ _ (rw (p, c.if-not-register_shares.true) at
    c.register_shares.ensures) _ refl

pub count_votes-requires : goal.count_votes-requires
unfolding used_length
count_votes-requires c =
    named_lent_checked_room_order (let o = c in
    let h = o.requires.lent in
    let p = c.read_u32-p.ensures ∙ sym (is_readable _ (laid_readable _ o.requires.lent.store)).used in
    let total = (taken_sound _ _ c.in-Ok.ensures).1 in (
      process_voting _ _ _ _ h o.args.telling o.args.events.now _ _
          (c.if-not-register_shares.false)
          (rw p at c.register_shares.ensures) _ total,
      (statements_pass _ _ _ h.checks, (o.requires.room, o.requires.order)),
    ))

pub returns : goal.returns
unfolding used_length
returns c =
    let o = c in
    let p = c.read_u32-p.ensures ∙ sym
    (is_readable _ (laid_readable _ o.requires.lent.store)).used in
    process_done _ _ _ _ o.requires.lent _ _ _ _ (c.if-not-register_shares.false)
    (rw p at c.register_shares.ensures) _ _ _
    c.count_votes.ensures
