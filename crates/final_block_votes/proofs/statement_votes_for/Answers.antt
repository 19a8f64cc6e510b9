use mathlib.Core.Path.{sym, ◌∙◌}
use Rattle.base.specs.Lists.{holds}
use Rattle.types.specs.Values.{as_locator}
use Rattle.record_statement_votes.specs.Votes.{as_vote}
use Rattle.final_block_votes.proofs.Reading.{votes_share, votes_named}
use Rattle.final_block_votes.proofs.statement_votes_for.Goals as goal

pub returns-then-is_share : goal.returns-then-is_share
returns-then-is_share c = λ s. c.is_at.ensures ∙ votes_share _ _ _ _ (sym (c.is_share.ensures s) ∙ c.if-is_share.true)

pub returns-in-Locator : goal.returns-in-Locator
unfolding as_vote as_locator holds
returns-in-Locator c = λ s.
    let v = c in
    let other = sym (v.is_share.ensures s) ∙ v.if-is_share.false in
    c.is_at-in-Locator.ensures ∙ votes_named _ _ _ _ other _ (rw c.in-Locator.is at (v.vote_of-vote.ensures s))

pub returns-in-Range : goal.returns-in-Range
unfolding as_vote holds
returns-in-Range c = λ s.
    let v = c in
    let other = sym (v.is_share.ensures s) ∙ v.if-is_share.false in
    c.covers.ensures ∙ votes_named _ _ _ _ other _ (rw c.in-Range.is at (v.vote_of-vote.ensures s))

pub returns-in-Nothing : goal.returns-in-Nothing
unfolding as_vote holds
returns-in-Nothing c = λ s.
    let v = c in
    let other = sym (v.is_share.ensures s) ∙ v.if-is_share.false in
    votes_named _ _ _ _ other _ (rw c.in-Nothing.is at (v.vote_of-vote.ensures s))
