use Rattle.record_spec.specs.Block.{voted_range}
use Rattle.record_statement.specs.Values.{as_statement}
use Rattle.record_statement_votes.specs.Votes.{as_vote}
use Rattle.record_statement_votes.proofs.vote_of.Goals as goal

pub returns-in-Share : goal.returns-in-Share
unfolding as_vote as_statement voted_range
returns-in-Share c = λ s. rw c.in-Share.is

pub returns-in-Accept : goal.returns-in-Accept
unfolding as_vote as_statement voted_range
returns-in-Accept c = λ s. rw c.in-Accept.is

pub returns-in-Reject : goal.returns-in-Reject
unfolding as_vote as_statement voted_range
returns-in-Reject c = λ s. rw c.in-Reject.is

pub returns-in-RejectFor : goal.returns-in-RejectFor
unfolding as_vote as_statement voted_range
returns-in-RejectFor c = λ s. rw c.in-RejectFor.is

pub returns-in-VoteRange : goal.returns-in-VoteRange
unfolding as_vote as_statement voted_range
returns-in-VoteRange c = λ s. rw c.in-VoteRange.is
