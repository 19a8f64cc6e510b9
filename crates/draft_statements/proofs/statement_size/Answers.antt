use native.Mathlib.Omega.{arith}
use borrow.Author.Tests.{lt-ltb, le-ltb}
use Rattle.draft_statements.specs.Step.{size_of}
use Rattle.draft_statements.proofs.statement_size.Goals as goal

pub returns-then-len-gt65535 : goal.returns-then-len-gt65535
unfolding size_of
returns-then-len-gt65535 c = rw (c.in-Share.is, lt-ltb 65535 c.in-Share.len c.if-len-gt65535.true)

pub returns-else-len-gt65535 : goal.returns-else-len-gt65535
unfolding size_of
returns-else-len-gt65535 c = rw (c.in-Share.is, le-ltb 65535 c.in-Share.len (omega arith))

pub returns-in-Accept : goal.returns-in-Accept
unfolding size_of
returns-in-Accept c = rw c.in-Accept.is

pub returns-in-Reject : goal.returns-in-Reject
unfolding size_of
returns-in-Reject c = rw c.in-Reject.is

pub returns-in-RejectFor : goal.returns-in-RejectFor
unfolding size_of
returns-in-RejectFor c = rw c.in-RejectFor.is

pub returns-in-VoteRange : goal.returns-in-VoteRange
unfolding size_of
returns-in-VoteRange c = rw c.in-VoteRange.is
