use Rattle.store_payload.specs.Answers.{shared_by}
use Rattle.store_payload.proofs.share_place.Goals as goal

pub returns-in-Share : goal.returns-in-Share
unfolding shared_by
returns-in-Share c = rw c.in-Share.is

pub returns-in-Accept : goal.returns-in-Accept
unfolding shared_by
returns-in-Accept c = rw c.in-Accept.is

pub returns-in-Reject : goal.returns-in-Reject
unfolding shared_by
returns-in-Reject c = rw c.in-Reject.is

pub returns-in-RejectFor : goal.returns-in-RejectFor
unfolding shared_by
returns-in-RejectFor c = rw c.in-RejectFor.is

pub returns-in-VoteRange : goal.returns-in-VoteRange
unfolding shared_by
returns-in-VoteRange c = rw c.in-VoteRange.is
