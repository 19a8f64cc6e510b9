use Rattle.record_spec.specs.Block.{is_share}
use Rattle.record_statement.specs.Values.{as_statement}
use Rattle.record_shared_ranges.proofs.is_share.Goals as goal

pub returns-in-Share : goal.returns-in-Share
unfolding as_statement is_share
returns-in-Share c rec = rw c.in-Share.is

pub returns-in-Accept : goal.returns-in-Accept
unfolding as_statement is_share
returns-in-Accept c rec = rw c.in-Accept.is

pub returns-in-Reject : goal.returns-in-Reject
unfolding as_statement is_share
returns-in-Reject c rec = rw c.in-Reject.is

pub returns-in-RejectFor : goal.returns-in-RejectFor
unfolding as_statement is_share
returns-in-RejectFor c rec = rw c.in-RejectFor.is

pub returns-in-VoteRange : goal.returns-in-VoteRange
unfolding as_statement is_share
returns-in-VoteRange c rec = rw c.in-VoteRange.is
