use Prim.Native.Nat.{ℕ, ◌/◌}
use mathlib.Core.Path.{◌≡◌, sym, ap, ◌∙◌}
use lib.ListN.{length, take}
use lib.Seq.{length-take-le, take_at}
use native.Mathlib.Omega.{arith}
use Rattle.words.specs.Words.{words_in, words_of}
use Rattle.calendar_windows.specs.Calendar.{good_calendar}
use Rattle.host_calendar.proofs.Calls.{ragged, long, judged}
use Rattle.host_calendar.proofs.words_in.Goals as goal

pub returns-then-calendar-ne0 : goal.returns-then-calendar-ne0
returns-then-calendar-ne0 c = ragged c.args.calendar.now c.if-calendar-ne0.true

pub returns-then-n-gt-MAX_WORDS : goal.returns-then-n-gt-MAX_WORDS
returns-then-n-gt-MAX_WORDS c = long c.args.calendar.now (omega arith) c.if-n-gt-MAX_WORDS.true

pub slice_bounds-words_of-end-2 : goal.slice_bounds-words_of-end-2
slice_bounds-words_of-end-2 c =
    let start = c.args in
    sym (length-take-le (length start.calendar.now / 8) start.held.now (omega arith))

pub slice_bounds-is_good-end-2 : goal.slice_bounds-is_good-end-2
slice_bounds-is_good-end-2 c =
    let start = c.args in
    let s = start.calendar.now in
    let n = length s / 8 in
    let filled = c.words_of in
    let e : length (take n start.held.now) ≡ n = length-take-le n start.held.now (omega arith) in
    sym (ap length (take_at filled.new.words _ n (filled.auto.words ∙ e)) ∙ filled.auto.words ∙ e)

pub returns-then-not-is_good : goal.returns-then-not-is_good
unfolding words_of
returns-then-not-is_good c =
    let start = c.args in
    let s = start.calendar.now in
    let n = length s / 8 in
    let filled = c.words_of in
    let e : length (take n start.held.now) ≡ n = length-take-le n start.held.now (omega arith) in
    let front = take_at filled.new.words _ n (filled.auto.words ∙ e) ∙ filled.ensures ∙ ap (λ (k : ℕ). words_in k s) e in
    judged s (omega arith) ∙ ap good_calendar (sym front) ∙ sym c.is_good.ensures ∙ c.if-not-is_good.true

pub returns : goal.returns
unfolding words_of
returns c =
    let start = c.args in
    let s = start.calendar.now in
    let n = length s / 8 in
    let filled = c.words_of in
    let e : length (take n start.held.now) ≡ n = length-take-le n start.held.now (omega arith) in
    let front = take_at filled.new.words _ n (filled.auto.words ∙ e) ∙ filled.ensures ∙ ap (λ (k : ℕ). words_in k s) e in
    (judged s (omega arith) ∙ ap good_calendar (sym front) ∙ sym c.is_good.ensures ∙ c.if-not-is_good.false, (omega arith, front))
