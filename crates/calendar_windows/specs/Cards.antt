-- The calendar at its edges, one table. Assumes nothing: these are definitions.
use Rattle.std.specs.Prelude.{ℕ, ◌≡◌, true, false, List, [], ◌∷◌}
use Rattle.std.proofs.Math.Option.{none, some}
use Rattle.base.specs.Checks.{refused, answered}
use Rattle.calendar_windows.specs.Calendar.{week_second, ask_open, ask_next_open}

-- two touching windows at the week's beginning, one at its end
abbrev pub three : List ℕ
three = 0 ∷ 3600 ∷ 3600 ∷ 7200 ∷ 600000 ∷ 604800 ∷ []

pub record Cards : Type 0 where
  -- 1 January 1970 was a Thursday, the 5th a Monday
  pub thursday : week_second 0 ≡ 259200
  pub monday : week_second 345600 ≡ 0
  pub sunday : week_second 345599 ≡ 604799
  -- a window's start, the second before its end, and its end
  pub start : ask_open three 345600 ≡ answered false
  pub before_end : ask_open three 352799 ≡ answered false
  pub end : ask_open three 352800 ≡ answered true
  -- on a Monday at 0:00 through both windows; from the week's last window through those of the next; at once
  pub through_both : ask_next_open three 345600 ≡ answered (some 352800)
  pub over_the_end : ask_next_open three 945600 ≡ answered (some 957600)
  pub at_once : ask_next_open three 0 ≡ answered (some 0)
  -- the week is full, by one window and by touching ones
  pub full : ask_next_open (0 ∷ 604800 ∷ []) 0 ≡ answered none
  pub full_by_two : ask_next_open (0 ∷ 7 ∷ 7 ∷ 604800 ∷ []) 0 ≡ answered none
  -- the last second of the count is second 284,415 of its week
  pub last_of_all : week_second 18446744073709551615 ≡ 284415
  pub last_open : ask_next_open (284400 ∷ 284415 ∷ []) 18446744073709551600 ≡ answered (some 18446744073709551615)
  pub past_the_count : ask_next_open (284400 ∷ 284416 ∷ []) 18446744073709551600 ≡ answered none
  -- no windows: always open
  pub never_closed : ask_next_open [] 7 ≡ answered (some 7)
  -- an odd number of words, an empty window, one past the week, overlapping ones, ones out of order
  pub odd : ask_open (0 ∷ 9 ∷ 12 ∷ []) 7 ≡ refused 59
  pub nothing_in_it : ask_open (5 ∷ 5 ∷ []) 7 ≡ refused 59
  pub too_late : ask_open (5 ∷ 604801 ∷ []) 7 ≡ refused 59
  pub overlapping : ask_next_open (5 ∷ 9 ∷ 8 ∷ 12 ∷ []) 7 ≡ refused 59
  pub descending : ask_next_open (8 ∷ 12 ∷ 5 ∷ 8 ∷ []) 7 ≡ refused 59
