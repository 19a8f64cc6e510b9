-- What the calendar's answers mean, as claims. Assumes nothing: these are definitions.
use Rattle.std.specs.Prelude.{ℕ, ◌+◌, ◌*◌, ◌≤◌, ◌<◌, ◌≡◌, ◌↔◌, ◌⊎◌, true, false, List}
use Rattle.std.proofs.Math.Option.{none, some}
use Rattle.base.specs.Checks.{refused}
use Rattle.calendar_windows.specs.Calendar.{Window, week, last_second, good_calendar, week_second, blasting, is_open, FirstOpen, first_open, ask_open}
use Rattle.calendar_windows.specs.Calendar.{ask_next_open}

-- 02: "Second 0 of the week is second 0 of the count since 1970 plus 345,600 .., weeks repeating both ways": after it, and in the week before
unfoldable pub WeekMeant : Type 0
WeekMeant = ((s k : ℕ) → s < week → week_second (345600 + k * week + s) ≡ s) × ((t : ℕ) → t < 345600 → week_second t + 345600 ≡ t + week)

-- 02: "The time given is open and no earlier one from the request on is": the time that is given, and every such time is given
unfoldable pub FoundMeant : Type 0
FoundMeant = (ws : List Window) (t r : ℕ) → (first_open ws t ≡ some r) ↔ (FirstOpen ws t r × (r ≤ last_second))

-- 02: "none if the windows fill the week or the count would pass 2^64 - 1": then, and only then
unfoldable pub FillWeek : List Window → Type 0
FillWeek ws = (s : ℕ) → s < week → blasting ws s ≡ true

unfoldable pub PassesCount : List Window → ℕ → Type 0
PassesCount ws t = (r : ℕ) × (FirstOpen ws t r × (last_second < r))

unfoldable pub NoneMeant : Type 0
NoneMeant = (ws : List Window) (t : ℕ) → (first_open ws t ≡ none) ↔ (FillWeek ws ⊎ PassesCount ws t)

-- where the windows leave a second of the week free, an open second is less than a week away
unfoldable pub WithinWeek : Type 0
WithinWeek = (ws : List Window) (s t : ℕ) → s < week → blasting ws s ≡ false → (r : ℕ) × (FirstOpen ws t r × (r < t + week))

-- 02: "weeks repeating": a week later loading is open alike, and the first open second is a week later, as far as the count goes
unfoldable pub OpenWeekly : Type 0
OpenWeekly = (ws : List Window) (t : ℕ) → is_open ws (t + week) ≡ is_open ws t

unfoldable pub FoundWeekly : Type 0
FoundWeekly = (ws : List Window) (t r : ℕ) → first_open ws t ≡ some r → r + week ≤ last_second → first_open ws (t + week) ≡ some (r + week)

unfoldable pub NoneWeekly : Type 0
NoneWeekly = (ws : List Window) (t : ℕ) → first_open ws t ≡ none → first_open ws (t + week) ≡ none

-- 02: "Over 64 windows, or any overlapping or out of order or range, answer 59": both calls, and only then
unfoldable pub RefusedMeant : Type 0
RefusedMeant = (ns : List ℕ) (t : ℕ) → ((ask_open ns t ≡ refused 59) ↔ (good_calendar ns ≡ false))
    × ((ask_next_open ns t ≡ refused 59) ↔ (good_calendar ns ≡ false))

pub record Claims : Type 0 where
  pub week_meant : WeekMeant
  pub found_meant : FoundMeant
  pub none_meant : NoneMeant
  pub within_week : WithinWeek
  pub open_weekly : OpenWeekly
  pub found_weekly : FoundWeekly
  pub none_weekly : NoneWeekly
  pub refused_meant : RefusedMeant
