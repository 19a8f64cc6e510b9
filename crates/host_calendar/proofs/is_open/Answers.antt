use Rattle.std.specs.Prelude.{Ok}
use mathlib.Core.Bool.{true, false}
use mathlib.Core.Path.{sym, ap, ◌∙◌}
use lib.Seq.{length-take-le}
use native.Mathlib.Omega.{arith}
use Rattle.host_calls.specs.Calls.{encoded, flag}
use Rattle.calendar_question.specs.Answers.{as_open}
use Rattle.host_calendar.proofs.Calls.{open_refused, open_told, open_never}
use Rattle.host_calendar.proofs.is_open.Goals as goal

pub returns-in_default : goal.returns-in_default
unfolding encoded
returns-in_default c =
    let start = c.args in
    c.refused.ensures ∙ sym (ap encoded (open_refused start.calendar.now start.time (rw c.in_default.is at c.words_in.ensures)))

pub slice_bounds-held-end : goal.slice_bounds-held-end
slice_bounds-held-end c =
    let told = rw c.in-Some.is at c.words_in.ensures in
    let kept = c.words_in.auto.held in
    omega (arith, told.1.0, kept)

pub slice_bounds-is_open-end : goal.slice_bounds-is_open-end
slice_bounds-is_open-end c =
    let told = rw c.in-Some.is at c.words_in.ensures in
    let kept = c.words_in.auto.held in
    sym (length-take-le c.in-Some.n c.words_in.new.held (omega (arith, told.1.0, kept)))

pub returns-in-Ok-true : goal.returns-in-Ok-true
unfolding encoded flag as_open
returns-in-Ok-true c =
    let start = c.args in
    let told = rw c.in-Some.is at
    c.words_in.ensures in
    let asked = sym (rw told.1.1 at c.is_open.ensures) ∙ ap as_open (c.in-Ok-true.is ∙ ap Ok c.in-Ok-true.field-0-test) in
    sym (ap encoded (open_told start.calendar.now start.time told.0 true asked))

pub returns-in-Ok-false : goal.returns-in-Ok-false
unfolding encoded flag as_open
returns-in-Ok-false c =
    let start = c.args in
    let told = rw c.in-Some.is at
    c.words_in.ensures in
    let asked = sym (rw told.1.1 at c.is_open.ensures) ∙ ap as_open (c.in-Ok-false.is ∙ ap Ok c.in-Ok-false.field-0-test) in
    sym (ap encoded (open_told start.calendar.now start.time told.0 false asked))

pub returns-in-Err : goal.returns-in-Err
unfolding as_open
returns-in-Err c =
    let start = c.args in
    let told = rw c.in-Some.is at
    c.words_in.ensures in
    let asked = sym (rw told.1.1 at c.is_open.ensures) ∙ ap as_open c.in-Err.is in
    absurd (open_never start.calendar.now start.time told.0 _ asked)
