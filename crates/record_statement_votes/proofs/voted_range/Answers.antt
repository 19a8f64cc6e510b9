use mathlib.Core.Path.{sym, ap, ◌∙◌}
use mathlib.Core.List.{[]}
use mathlib.Core.Option.{some}
use native.Mathlib.Omega.{arith}
use Rattle.record_spec.specs.Reference.{locator, new_range, one_range}
use Rattle.types.specs.Values.{as_locator}
use Rattle.record_statement_votes.specs.Votes.{as_vote, as_voted, EndsInside}
use Rattle.record_statement_votes.proofs.voted_range.Goals as goal

pub one-requires : goal.one-requires
unfolding EndsInside as_vote as_locator one_range new_range locator
one-requires c =
    let e = rw c.in-Locator.is at (c.vote_of-vote.ensures []) in
    let inside = c.requires _ (sym e) in
    omega (arith, inside)

pub returns-in-Locator : goal.returns-in-Locator
unfolding as_vote as_voted
returns-in-Locator c = λ s. ap some c.one.ensures ∙ (rw c.in-Locator.is at (c.vote_of-vote.ensures s))

pub returns-in-Range : goal.returns-in-Range
unfolding as_vote as_voted
returns-in-Range c = λ s. rw c.in-Range.is at (c.vote_of-vote.ensures s)

pub returns-in-Nothing : goal.returns-in-Nothing
unfolding as_vote as_voted
returns-in-Nothing c = λ s. rw c.in-Nothing.is at (c.vote_of-vote.ensures s)
