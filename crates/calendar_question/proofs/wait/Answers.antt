use native.Mathlib.Omega.{arith}
use Rattle.calendar_windows.specs.Calendar.{windows}
use Rattle.calendar_windows.proofs.Weeks.{week_below}
use Rattle.calendar_windows.proofs.Waits.{this_week, next_week}
use Rattle.calendar_question.proofs.wait.Goals as goal

pub returns-then-free-lt-WEEK : goal.returns-then-free-lt-WEEK
returns-then-free-lt-WEEK c =
    let a = c.args in
    let e = c.week_second-second.ensures in
    rw e (this_week (windows a.calendar.now) a.time c.free_from-free.result (rw e at c.free_from-free.ensures) c.if-free-lt-WEEK.true)

pub overflow_sub-result-2 : goal.overflow_sub-result-2
overflow_sub-result-2 c = omega (arith, c.week_second-second.ensures, week_below c.args.time)

pub returns : goal.returns
returns c =
    let a = c.args in
    let e = c.week_second-second.ensures in
    let p = c.requires in
    rw e (next_week (windows a.calendar.now) a.time c.free_from-free.result a.opening (rw e at c.free_from-free.ensures)
    c.if-free-lt-WEEK.false p.1.0 p.1.1)
