-- The calendar at its edges, evaluated; the first open second by the walks over the windows. Assumes nothing.
use mathlib.Core.Path.{◌≡◌, refl, ap, ◌∙◌}
use mathlib.Core.Bool.{true}
use mathlib.Core.List.{List}
use mathlib.Core.Option.{Option, none, some}
use Prim.Native.Nat.{ℕ, ◌+◌, ◌-◌, ◌≤◌, ◌<◌}
use native.Mathlib.Omega.{arith}
use native.Mathlib.Decide.{dec_lt, dec_le}
use lib.Dec.{ltb, leb}
use borrow.Author.Tests.{lt-ltb, le-ltb, le-leb, lt-leb}
use Rattle.base.specs.Lists.{pick}
use Rattle.base.specs.Checks.{answered}
use Rattle.base.proofs.Computing.{computing as computing-base}
use Rattle.calendar_windows.specs.Calendar.{Window, week, last_second, windows, in_range, in_order, good_calendar, calendar_checks, week_second, within}
use Rattle.calendar_windows.specs.Calendar.{blasting, is_open, FirstOpen, first_open, ask_open, ask_next_open}
use Rattle.calendar_windows.specs.Cards.{Cards}
use Rattle.calendar_windows.proofs.Freed.{free_from, freed}
use Rattle.calendar_windows.proofs.Steps.{good_in_order}
use Rattle.calendar_windows.proofs.Waits.{full_week, this_week, next_week, in_count, past_count}
use Rattle.calendar_windows.proofs.Asked.{next_answered, next_refused}

-- the seconds to wait, and the first open second, without a walk over seconds
unfoldable wait_from : List Window → ℕ → ℕ
wait_from ws s = pick (ltb (free_from ws s) week) (free_from ws s - s) (week - s + free_from ws 0)

unfoldable worked : List Window → ℕ → Option ℕ
worked ws t = pick (leb week (free_from ws 0)) none (pick (leb (t + wait_from ws (week_second t)) last_second) (some (t + wait_from ws (week_second t))) none)

unfoldable computing : Unit {0}
unfolding computing-base windows in_range in_order good_calendar calendar_checks week_second within blasting is_open free_from wait_from worked ask_open
computing = tt

module _ (ws : List Window) (g : in_order ws ≡ true) (t : ℕ) where
  waited : free_from ws 0 < week → FirstOpen ws t (t + wait_from ws (week_second t))
  unfolding wait_from
  waited h = go (dec_lt (free_from ws (week_second t)) week)
    where
      go : Dec (free_from ws (week_second t) < week)
          → FirstOpen ws t (t + pick (ltb (free_from ws (week_second t)) week) (free_from ws (week_second t) - week_second t)
          (week - week_second t + free_from ws 0))
      go (yes k) = rw (lt-ltb (free_from ws (week_second t)) week k) (this_week ws t (free_from ws (week_second t)) (freed ws g (week_second t)) k)
      go (no k) =
          let l : week ≤ free_from ws (week_second t) = omega arith in
          rw (le-ltb (free_from ws (week_second t)) week l) (next_week ws t (free_from ws (week_second t)) (free_from ws 0) (freed ws g (week_second t)) l
          (freed ws g 0) h)

  works : first_open ws t ≡ worked ws t
  unfolding worked
  works = go (dec_le week (free_from ws 0)) (dec_le (t + wait_from ws (week_second t)) last_second)
    where
      go : Dec (week ≤ free_from ws 0) → Dec (t + wait_from ws (week_second t) ≤ last_second)
          → first_open ws t ≡ pick (leb week (free_from ws 0)) none (pick (leb (t + wait_from ws (week_second t)) last_second)
          (some (t + wait_from ws (week_second t))) none)
      go (yes h) k = rw (le-leb week (free_from ws 0) h) (full_week ws (free_from ws 0) t (freed ws g 0) h)
      go (no h) (yes k) =
          let l : free_from ws 0 < week = omega arith in
          rw (lt-leb week (free_from ws 0) l, le-leb (t + wait_from ws (week_second t)) last_second k)
          (in_count ws t (t + wait_from ws (week_second t)) (waited l) k)
      go (no h) (no k) =
          let l : free_from ws 0 < week = omega arith in
          let m : last_second < t + wait_from ws (week_second t) = omega arith in
          rw (lt-leb week (free_from ws 0) l, lt-leb (t + wait_from ws (week_second t)) last_second m)
          (past_count ws t (t + wait_from ws (week_second t)) (waited l) m)

-- the call, worked out
next : (ns : List ℕ) (t : ℕ) → good_calendar ns ≡ true → ask_next_open ns t ≡ answered (worked (windows ns) t)
next ns t g = next_answered ns t g ∙ ap answered (works (windows ns) (good_in_order ns g) t)

pub evaluated : Cards
unfolding computing
evaluated =
    record {
      thursday = refl;
      monday = refl;
      sunday = refl;
      start = refl;
      before_end = refl;
      end = refl;
      through_both = next _ _ refl;
      over_the_end = next _ _ refl;
      at_once = next _ _ refl;
      full = next _ _ refl;
      full_by_two = next _ _ refl;
      last_of_all = refl;
      last_open = next _ _ refl;
      past_the_count = next _ _ refl;
      never_closed = next _ _ refl;
      odd = refl;
      nothing_in_it = refl;
      too_late = refl;
      overlapping = next_refused _ _ refl;
      descending = next_refused _ _ refl;
    }
