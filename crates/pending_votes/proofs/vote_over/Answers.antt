use mathlib.Core.Path.{sym, ◌∙◌}
use native.Mathlib.Omega.{arith}
use borrow.Author.Rules.{rules}
use Rattle.base.proofs.Tests.{not_both}
use Rattle.committee.proofs.Answers.{known_sound, unknown_sound}
use Rattle.pending_votes.proofs.Voting.{formed, few, empty_vote, vote_range, first_room, first_cut, second_room, second_cut, cut_countable, all_voted}
use Rattle.pending_words.proofs.Slots.{holds_full}
use Rattle.pending_votes.proofs.vote_over.Goals as goal

pub returns-then-end-start : goal.returns-then-end-start
returns-then-end-start c =
    let start = c in
    let f = formed _ _ start.requires.formed in
    rw (empty_vote _ _ _ start.args.start start.args.end _ (holds_full _ f.holds) (omega arith)) f.holds.laid

pub returns-in_default : goal.returns-in_default
returns-in_default c =
    absurd (not_both c.requires.known
    (unknown_sound _ _ (sym c.get_stake.ensures ∙ c.in_default.is)))

pub cut_at-requires : goal.cut_at-requires
cut_at-requires c =
    let start = c in
    let h = vote_range start.requires.formed c.if-end-start.false start.requires.room in
    (h.table.holds, first_room h)

pub cut_at-requires-2 : goal.cut_at-requires-2
cut_at-requires-2 c =
    let start = c in
    let h = vote_range start.requires.formed c.if-end-start.false start.requires.room in
    let w = first_cut h c.cut_at.ensures in
    (w.holds, second_room h w)

pub vote_items-requires : goal.vote_items-requires
vote_items-requires c =
    let start = c in
    let h = vote_range start.requires.formed c.if-end-start.false start.requires.room in
    let w = second_cut h (first_cut h c.cut_at.ensures)
    c.cut_at-2.ensures in
    let s = known_sound _ _ _ (sym c.get_stake.ensures ∙ c.in-Some.is) in
    (w.holds, few _ _ start.requires.broken start.requires.known, cut_countable h start.args.a.0 w s.1 start.requires.broken start.requires.known)

pub returns : goal.returns
returns c =
    let start = c in
    let h = vote_range start.requires.formed c.if-end-start.false start.requires.room in
    let w = second_cut h (first_cut h c.cut_at.ensures)
    c.cut_at-2.ensures in
    let s = known_sound _ _ _ (sym c.get_stake.ensures ∙ c.in-Some.is) in
    all_voted h start.args.a.0 w s.1 c.vote_items.ensures
