use mathlib.Core.Path.{sym, ◌∙◌}
use Rattle.base.specs.Lists.{any_of}
use Rattle.types.specs.Values.{as_locator}
use Rattle.record_statement.specs.Values.{as_statement}
use Rattle.final_readings_spec.specs.Rejecting.{rejected_in}
use Rattle.final_block_rejects.specs.Speeches.{statement_rejects}
use Rattle.final_block_rejects.proofs.Reading.{rejects_first}
use borrow.Author.Rules.{rules}
use Rattle.final_block_rejects.proofs.statement_rejects.Goals as goal

pub returns-in-Share : goal.returns-in-Share
unfolding as_statement statement_rejects rejected_in any_of
returns-in-Share c = λ s. rw c.in-Share.is

pub returns-in-Accept : goal.returns-in-Accept
unfolding as_statement statement_rejects rejected_in any_of
returns-in-Accept c = λ s. rw c.in-Accept.is

pub returns-in-Reject : goal.returns-in-Reject
unfolding as_statement
returns-in-Reject c = λ s.
    c.same_locator.ensures ∙ rw c.in-Reject.is (sym (rejects_first _ (as_locator c.in-Reject.l) _))

pub returns-in-RejectFor : goal.returns-in-RejectFor
unfolding as_statement
returns-in-RejectFor c = λ s.
    c.same_locator-in-RejectFor.ensures ∙ rw c.in-RejectFor.is (sym (rejects_first _ (as_locator c.in-RejectFor.l) _))

pub returns-in-VoteRange : goal.returns-in-VoteRange
unfolding as_statement statement_rejects rejected_in any_of
returns-in-VoteRange c = λ s. rw c.in-VoteRange.is
