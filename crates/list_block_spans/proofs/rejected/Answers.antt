use mathlib.Core.Path.{sym, ◌∙◌}
use mathlib.Core.List.{flatten, append-nil}
use Rattle.types.specs.Values.{as_locator}
use Rattle.record_statement.specs.Values.{as_statement}
use Rattle.final_readings_spec.specs.Rejecting.{rejected_in}
use Rattle.list_block_spans.specs.Answers.{voted_by}
use Rattle.list_block_spans.specs.Ranges.{rejected_range, reject_ranges}
use Rattle.list_block_spans.proofs.rejected.Goals as goal

pub returns-in-Share : goal.returns-in-Share
unfolding as_statement voted_by reject_ranges rejected_in flatten
returns-in-Share c = λ s. rw c.in-Share.is

pub returns-in-Accept : goal.returns-in-Accept
unfolding as_statement voted_by reject_ranges rejected_in flatten
returns-in-Accept c = λ s. rw c.in-Accept.is

pub returns-in-Reject : goal.returns-in-Reject
unfolding as_statement reject_ranges rejected_in flatten
returns-in-Reject c = λ s. c.rejected_range.ensures ∙ rw c.in-Reject.is
    (sym (append-nil (rejected_range (as_locator c.in-Reject.l))))

pub returns-in-RejectFor : goal.returns-in-RejectFor
unfolding as_statement reject_ranges rejected_in flatten
returns-in-RejectFor c = λ s. c.rejected_range-in-RejectFor.ensures ∙ rw c.in-RejectFor.is
    (sym (append-nil (rejected_range (as_locator c.in-RejectFor.l))))

pub returns-in-VoteRange : goal.returns-in-VoteRange
unfolding as_statement voted_by reject_ranges rejected_in flatten
returns-in-VoteRange c = λ s. rw c.in-VoteRange.is
