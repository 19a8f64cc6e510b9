-- What the calls answer, by whether the calendar is good. Assumes nothing.
use mathlib.Core.Path.{◌≡◌}
use mathlib.Core.Bool.{true, false}
use mathlib.Core.List.{List}
use Prim.Native.Nat.{ℕ}
use Rattle.base.specs.Lists.{all_of}
use Rattle.base.specs.Checks.{passes, refusal, checked, refused, answered}
use Rattle.calendar_windows.specs.Calendar.{windows, good_calendar, calendar_checks, is_open, first_open, ask_open, ask_next_open}

module _ (ns : List ℕ) (t : ℕ) where
  module _ (h : good_calendar ns ≡ false) where
    pub open_refused : ask_open ns t ≡ refused 59
    unfolding ask_open checked passes all_of refusal calendar_checks
    open_refused = rw h

    pub next_refused : ask_next_open ns t ≡ refused 59
    unfolding ask_next_open checked passes all_of refusal calendar_checks
    next_refused = rw h

  module _ (h : good_calendar ns ≡ true) where
    pub open_answered : ask_open ns t ≡ answered (is_open (windows ns) t)
    unfolding ask_open checked passes all_of calendar_checks
    open_answered = rw h

    pub next_answered : ask_next_open ns t ≡ answered (first_open (windows ns) t)
    unfolding ask_next_open checked passes all_of calendar_checks
    next_answered = rw h
