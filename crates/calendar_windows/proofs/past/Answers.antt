use borrow.Author.Tests.{lt-ltb, le-ltb, le-leb, lt-leb}
use Rattle.calendar_windows.specs.Calendar.{within}
use Rattle.calendar_windows.proofs.past.Goals as goal
use Rattle.calendar_windows.proofs.past.Goals.{else-start-second-via-then-start-second+else-second-end, else-start-second-via-else-start-second}

pub returns-then-second-end : goal.returns-then-second-end
unfolding within
returns-then-second-end c =
    let a = c.args in
    rw (le-leb a.start a.second c.if-start-second.true, lt-ltb a.second a.end c.if-second-end.true)

pub returns : goal.returns
unfolding within
returns c =
    let a = c.args in
    elim c.else-start-second.branch [
      | else-start-second-via-then-start-second+else-second-end w ↦
          rw (le-leb a.start a.second w.if-start-second.true, le-ltb a.second a.end w.if-second-end.false)
      | else-start-second-via-else-start-second w ↦ rw (lt-leb a.start a.second w.if-start-second.false)
    ]
