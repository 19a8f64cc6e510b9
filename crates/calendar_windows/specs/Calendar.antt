-- The blast calendar: weekly windows in which no station may load a change. Assumes nothing: these are definitions.
use Rattle.std.specs.Prelude.{ℕ, zero, suc, ◌+◌, ◌-◌, ◌%◌, ◌≤◌, ◌<◌, ◌≡◌, Bool, true, false, not, ◌&&◌, List, [], ◌∷◌, ltb, leb, eqb, length}
use Rattle.std.proofs.Math.Option.{Option, none, some}
use Rattle.base.specs.Lists.{pick, any_of, all_of, pairwise}
use Rattle.base.specs.Checks.{Check, ◌⇒◌, Answer, checked}

-- ---- a calendar

-- 02: "each a start and an end in seconds of the week (0 to 604,800, start below end, end excluded)"
pub record Window : Type 0 where
  pub start : ℕ
  pub end : ℕ

-- the seconds of a week
abbrev pub week : ℕ
week = 604800

-- a calendar's words, two a window; an odd last word is none
unfoldable pub windows : List ℕ → List Window
windows [] = []
windows (x ∷ []) = []
windows (x ∷ y ∷ ws) = record { start = x; end = y } ∷ windows ws

-- 02: "(0 to 604,800, start below end ..)"
unfoldable pub in_range : Window → Bool
in_range w = ltb w.start w.end && leb w.end week

-- 02: "ascending and disjoint"; windows that touch are disjoint
abbrev pub ends_before : Window → Window → Bool
ends_before v w = leb v.end w.start

unfoldable pub in_order : List Window → Bool
in_order ws = all_of in_range ws && pairwise ends_before ws

-- 02: "a calendar of at most 64 windows"; its words are whole windows
unfoldable pub good_calendar : List ℕ → Bool
good_calendar ns = eqb (length ns % 2) 0 && (leb (length (windows ns)) 64 && in_order (windows ns))

-- 02: "Over 64 windows, or any overlapping or out of order or range, answer 59"
unfoldable pub calendar_checks : List ℕ → List Check
calendar_checks ns = (not (good_calendar ns) ⇒ 59) ∷ []

-- ---- a time

-- 02: "Second 0 of the week is second 0 of the count since 1970 plus 345,600, a Monday, weeks repeating both ways"
unfoldable pub week_second : ℕ → ℕ
week_second t = (t + (week - 345600)) % week

-- a second of the week lies in a window, its end excluded
unfoldable pub within : ℕ → Window → Bool
within s w = leb w.start s && ltb s w.end

unfoldable pub blasting : List Window → ℕ → Bool
blasting ws s = any_of (within s) ws

-- 02: "no station may load a change then": loading is open at every other time
unfoldable pub is_open : List Window → ℕ → Bool
is_open ws t = not (blasting ws (week_second t))

-- 02: "the first open second at or after it ..": "The time given is open and no earlier one from the request on is"
pub record FirstOpen (ws : List Window) (t r : ℕ) : Type 0 where
  pub opens : is_open ws r ≡ true
  pub after : t ≤ r
  pub earliest : (u : ℕ) → t ≤ u → u < r → is_open ws u ≡ false

-- the first open one of n seconds from t on
unfoldable pub first_among : ℕ → List Window → ℕ → Option ℕ
first_among zero ws t = none
first_among (suc n) ws t = pick (is_open ws t) (some t) (first_among n ws (t + 1))

-- the last second of the count
abbrev pub last_second : ℕ
last_second = 18446744073709551615

-- 02: "the first open second at or after it, or none if the windows fill the week or the count would pass 2^64 - 1"
unfoldable pub first_open : List Window → ℕ → Option ℕ
first_open ws t = first_among (last_second + 1 - t) ws t

-- ---- the calls

-- 02: "For a time in whole seconds give whether loading is open"
unfoldable pub ask_open : List ℕ → ℕ → Answer Bool
ask_open ns t = checked (calendar_checks ns) (is_open (windows ns) t)

-- 02: ".. and the first open second at or after it, or none"
unfoldable pub ask_next_open : List ℕ → ℕ → Answer (Option ℕ)
ask_next_open ns t = checked (calendar_checks ns) (first_open (windows ns) t)
