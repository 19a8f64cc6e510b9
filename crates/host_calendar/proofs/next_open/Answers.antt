use Rattle.std.specs.Prelude.{Ok}
use mathlib.Core.Path.{sym, ap, ◌∙◌}
use mathlib.Core.Option.{none, some}
use lib.Seq.{length-take-le}
use native.Mathlib.Omega.{arith}
use Rattle.base.proofs.Le.{length_le_bytes}
use Rattle.words.proofs.Stores.{sets_complete}
use Rattle.calendar_question.specs.Answers.{as_next_open}
use Rattle.host_calls.specs.Calls.{encoded}
use Rattle.host_calendar.specs.Calendar.{NextOpenCall, found_in}
use Rattle.host_calendar.proofs.Calls.{next_refused, next_unsized, next_told, next_never}
use Rattle.host_calendar.proofs.next_open.Goals as goal

pub returns-in_default : goal.returns-in_default
unfolding encoded
returns-in_default c =
    let start = c.args in
    let e = next_refused start.calendar.now start.time start.found.now
    (rw c.in_default.is at c.words_in.ensures) in
    (c.refused.ensures ∙ sym (ap (λ (x : NextOpenCall). encoded x.answer) e), sym (ap (λ (x : NextOpenCall). x.found) e))

pub returns-then-found-ne8 : goal.returns-then-found-ne8
unfolding encoded
returns-then-found-ne8 c =
    let start = c.args in
    let told = rw c.in-Some.is at c.words_in.ensures in
    let e = next_unsized start.calendar.now start.time start.found.now told.0 c.if-found-ne8.true in
    (c.refused-then-found-ne8.ensures ∙ sym (ap (λ (x : NextOpenCall). encoded x.answer) e), sym (ap (λ (x : NextOpenCall). x.found) e))

pub slice_bounds-held-end : goal.slice_bounds-held-end
slice_bounds-held-end c =
    let told = rw c.in-Some.is at c.words_in.ensures in
    let kept = c.words_in.auto.held in
    omega (arith, told.1.0, kept)

pub slice_bounds-next_open-end : goal.slice_bounds-next_open-end
slice_bounds-next_open-end c =
    let told = rw c.in-Some.is at c.words_in.ensures in
    let kept = c.words_in.auto.held in
    sym (length-take-le c.in-Some.n c.words_in.new.held
    (omega (arith, told.1.0, kept)))

pub returns-in-Ok-Some : goal.returns-in-Ok-Some
unfolding encoded found_in as_next_open
returns-in-Ok-Some c =
    let start = c.args in
    let told = rw c.in-Some.is at
    c.words_in.ensures in
    let asked = sym (rw told.1.1 at c.next_open.ensures) ∙ ap as_next_open
    (c.in-Ok-Some.is ∙ ap Ok c.in-Ok-Some.field-0-is) in
    let r = c.in-Ok-Some.second in
    let e = next_told start.calendar.now start.time start.found.now told.0
    c.if-found-ne8.false (some r) asked in (
      sym (ap (λ (x : NextOpenCall). encoded x.answer) e),
      c.write_u64.ensures ∙ sets_complete start.found.now _
          (length_le_bytes 8 r ∙ sym c.if-found-ne8.false) ∙ sym
          (ap (λ (x : NextOpenCall). x.found) e),
    )

pub returns-in-Ok-None : goal.returns-in-Ok-None
unfolding encoded found_in as_next_open
returns-in-Ok-None c =
    let start = c.args in
    let told = rw c.in-Some.is at
    c.words_in.ensures in
    let asked = sym (rw told.1.1 at c.next_open.ensures) ∙ ap as_next_open (c.in-Ok-None.is ∙ ap Ok c.in-Ok-None.field-0-is) in
    let e = next_told start.calendar.now start.time start.found.now told.0 c.if-found-ne8.false none asked in
    (sym (ap (λ (x : NextOpenCall). encoded x.answer) e), sym (ap (λ (x : NextOpenCall). x.found) e))

pub returns-in-Err : goal.returns-in-Err
unfolding as_next_open
returns-in-Err c =
    let start = c.args in
    let told = rw c.in-Some.is at
    c.words_in.ensures in
    let asked = sym (rw told.1.1 at c.next_open.ensures) ∙ ap as_next_open c.in-Err.is in
    absurd (next_never start.calendar.now start.time start.found.now told.0 _ asked)
