use mathlib.Core.Path.{sym, ◌∙◌}
use Rattle.calendar_windows.proofs.Steps.{good_odd, good_many, good_start, order_overlaps, order_empty, order_late, order_on, order_end}
use borrow.Author.Rules.{rules}
use native.Mathlib.Omega.{arith}
use Rattle.calendar_question.proofs.is_good.Goals as goal

pub returns-then-calendar-ne0 : goal.returns-then-calendar-ne0
returns-then-calendar-ne0 c = sym (good_odd c.args.calendar.now c.if-calendar-ne0.true)

pub returns-then-calendar-gt-MAX_WORDS : goal.returns-then-calendar-gt-MAX_WORDS
returns-then-calendar-gt-MAX_WORDS c = sym (good_many c.args.calendar.now c.if-calendar-gt-MAX_WORDS.true)

pub loop-i-init : goal.loop-i-init
loop-i-init c = (search rules, (search rules, good_start c.args.calendar.now (omega arith) (omega arith)))

pub returns-then-start-last_end : goal.returns-then-start-last_end
returns-then-start-last_end c =
    let ns = c.args.calendar.now in
    let b = c.loop-i in
    sym (b.invariant.1.1 ∙ order_overlaps ns b.i b.last_end (omega arith) (omega arith))

pub returns-then-end-start : goal.returns-then-end-start
returns-then-end-start c =
    let ns = c.args.calendar.now in
    let b = c.loop-i in
    sym (b.invariant.1.1 ∙ order_empty ns b.i b.last_end (omega arith) (omega arith) (omega arith))

pub returns-then-end-gt-WEEK : goal.returns-then-end-gt-WEEK
returns-then-end-gt-WEEK c =
    let ns = c.args.calendar.now in
    let b = c.loop-i in
    sym (b.invariant.1.1 ∙ order_late ns b.i b.last_end (omega arith) (omega arith) (omega arith) (omega arith))

pub loop-i-preserved : goal.loop-i-preserved
loop-i-preserved c =
    let ns = c.args.calendar.now in
    let b = c.loop-i in
    (omega arith, (omega arith, b.invariant.1.1 ∙ order_on ns b.i b.last_end (omega arith) (omega arith) (omega arith) (omega arith)))

pub returns : goal.returns
returns c =
    let b = c.loop-i in
    sym (b.invariant.1.1 ∙ order_end c.args.calendar.now b.i b.last_end (omega arith))
