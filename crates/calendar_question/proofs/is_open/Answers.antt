use mathlib.Core.Path.{◌≡◌, sym, ap, ◌∙◌}
use mathlib.Core.Bool.{true}
use Rattle.base.specs.Checks.{answered}
use Rattle.calendar_windows.specs.Calendar.{windows, good_calendar}
use Rattle.calendar_question.specs.Answers.{as_open}
use Rattle.calendar_windows.proofs.Asked.{open_refused, open_answered}
use Rattle.calendar_windows.proofs.Waits.{open_free, closed_later}
use Rattle.calendar_question.proofs.is_open.Goals as goal

pub returns-then-not-is_good : goal.returns-then-not-is_good
unfolding as_open
returns-then-not-is_good c =
    let a = c.args in
    sym (open_refused a.calendar.now a.time (sym c.is_good.ensures ∙ c.if-not-is_good.true))

pub free_from-requires : goal.free_from-requires
free_from-requires c = sym c.is_good.ensures ∙ c.if-not-is_good.false

pub returns-then-free_from-second : goal.returns-then-free_from-second
unfolding as_open
returns-then-free_from-second c =
    let a = c.args in
    let ns = a.calendar.now in
    let good : good_calendar ns ≡ true = sym c.is_good.ensures ∙ c.if-not-is_good.false in
    sym (open_answered ns a.time good ∙ ap answered (open_free (windows ns) a.time _ _ c.week_second-second.ensures
    c.free_from.ensures c.if-free_from-second.true))

pub returns : goal.returns
unfolding as_open
returns c =
    let a = c.args in
    let ns = a.calendar.now in
    let good : good_calendar ns ≡ true = sym c.is_good.ensures ∙ c.if-not-is_good.false in
    sym (open_answered ns a.time good ∙ ap answered (closed_later (windows ns) a.time _ _ c.week_second-second.ensures
    c.free_from.ensures c.if-free_from-second.false))
