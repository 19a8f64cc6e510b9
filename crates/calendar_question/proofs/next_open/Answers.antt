use mathlib.Core.Path.{◌≡◌, sym, ap, ◌∙◌}
use mathlib.Core.Bool.{true}
use native.Mathlib.Omega.{arith}
use Rattle.base.specs.Checks.{answered}
use Rattle.calendar_windows.specs.Calendar.{windows, good_calendar}
use Rattle.calendar_question.specs.Answers.{as_next_open}
use Rattle.calendar_windows.proofs.Asked.{next_refused, next_answered}
use Rattle.calendar_windows.proofs.Waits.{full_week, in_count, past_count}
use Rattle.calendar_question.proofs.next_open.Goals as goal

pub returns-then-not-is_good : goal.returns-then-not-is_good
unfolding as_next_open
returns-then-not-is_good c =
    let a = c.args in
    sym (next_refused a.calendar.now a.time (sym c.is_good.ensures ∙ c.if-not-is_good.true))

pub free_from-opening-requires : goal.free_from-opening-requires
free_from-opening-requires c = sym c.is_good.ensures ∙ c.if-not-is_good.false

pub returns-then-opening-ge-WEEK : goal.returns-then-opening-ge-WEEK
unfolding as_next_open
returns-then-opening-ge-WEEK c =
    let a = c.args in
    let ns = a.calendar.now in
    let good : good_calendar ns ≡ true = sym c.is_good.ensures ∙ c.if-not-is_good.false in
    sym (next_answered ns a.time good ∙ ap answered (full_week (windows ns) _ a.time c.free_from-opening.ensures c.if-opening-ge-WEEK.true))

pub wait-seconds-requires : goal.wait-seconds-requires
wait-seconds-requires c = (
  sym c.is_good.ensures ∙ c.if-not-is_good.false,
  (c.free_from-opening.ensures, c.if-opening-ge-WEEK.false),
)

pub returns-then-time-seconds : goal.returns-then-time-seconds
unfolding as_next_open
returns-then-time-seconds c =
    let a = c.args in
    let ns = a.calendar.now in
    let good : good_calendar ns ≡ true = sym c.is_good.ensures ∙ c.if-not-is_good.false in
    sym (next_answered ns a.time good ∙ ap answered (past_count (windows ns) a.time _ c.wait-seconds.ensures (omega arith)))

pub returns : goal.returns
unfolding as_next_open
returns c =
    let a = c.args in
    let ns = a.calendar.now in
    let good : good_calendar ns ≡ true = sym c.is_good.ensures ∙ c.if-not-is_good.false in
    sym (next_answered ns a.time good ∙ ap answered (in_count (windows ns) a.time _ c.wait-seconds.ensures (omega arith)))
