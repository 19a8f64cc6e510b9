use Rattle.base.specs.Checks.{refusal}
use Rattle.record_spec.specs.Reference.{locator, new_range}
use Rattle.types.specs.Values.{as_locator, as_range}
use Rattle.record_statement.specs.Values.{as_statement}
use Rattle.record_spec.specs.Verify.{statement_checks}
use Rattle.record_check_statements.proofs.statement_refusal.Goals as goal

pub returns-in-Share : goal.returns-in-Share
unfolding as_statement statement_checks refusal
returns-in-Share c rec = rw c.in-Share.is

pub returns-in-Accept : goal.returns-in-Accept
unfolding as_statement statement_checks refusal as_locator locator
returns-in-Accept c rec = rw c.in-Accept.is c.accept_refusal.ensures

pub returns-in-Reject : goal.returns-in-Reject
unfolding as_statement statement_checks refusal
returns-in-Reject c rec = rw c.in-Reject.is

pub returns-in-RejectFor : goal.returns-in-RejectFor
unfolding as_statement statement_checks refusal
returns-in-RejectFor c rec = rw c.in-RejectFor.is

pub returns-in-VoteRange : goal.returns-in-VoteRange
unfolding as_statement statement_checks refusal as_range new_range
returns-in-VoteRange c rec = rw c.in-VoteRange.is c.range_refusal.ensures
