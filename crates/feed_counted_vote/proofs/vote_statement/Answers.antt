use mathlib.Core.Path.{refl, sym, ap, ◌∙◌}
use Rattle.record_spec.specs.Reference.{new_range}
use Rattle.record_spec.specs.Block.{counted_offsets}
use Rattle.types.specs.Values.{as_range}
use Rattle.record_statement_votes.specs.Votes.{as_voted}
use Rattle.record_statement_votes.proofs.Ends.{checked_inside}
use Rattle.feed_counted_vote.proofs.Votes.{order_holds, vote_nothing}
use borrow.Author.Rules.{rules}
use Rattle.feed_counted_vote.proofs.vote_statement.Goals as goal

pub voted_range-requires : goal.voted_range-requires
voted_range-requires c = checked_inside _ c.requires.checked

pub returns-in_default : goal.returns-in_default
unfolding as_voted
returns-in_default c =
    let o = c in
    vote_nothing _ _ _ _ _ _ _ _ _ (sym (c.voted_range.ensures o.args.rec.now) ∙ ap as_voted c.in_default.is)
    (order_holds _ _ _ o.requires.lent.table).laid _ refl refl

pub vote-requires : goal.vote-requires
unfolding as_voted counted_offsets as_range new_range
vote-requires c =
    let o = c in
    let v = sym (c.voted_range.ensures o.args.rec.now) ∙ ap as_voted
    c.in-Some.is in
    record { lent = o.requires.lent; room = rw v at o.requires.room; order = o.requires.order }

pub returns : goal.returns
unfolding as_voted
returns c =
    let o = c in
    let v = sym (c.voted_range.ensures o.args.rec.now) ∙ ap as_voted
    c.in-Some.is in
    rw v c.vote.ensures
