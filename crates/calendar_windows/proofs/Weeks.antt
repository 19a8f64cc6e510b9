-- The second of the week of a time. Assumes nothing.
use mathlib.Core.Path.{◌≡◌, refl}
use mathlib.Core.Bool.{true, false}
use mathlib.Core.List.{List}
use Prim.Native.Nat.{ℕ, ◌+◌, ◌-◌, ◌%◌, ◌≤◌, ◌<◌}
use native.Mathlib.Omega.{arith}
use native.Mathlib.Decide.{dec_le}
use Rattle.calendar_windows.specs.Calendar.{Window, week, week_second, blasting, is_open}
use Rattle.calendar_windows.specs.Claims.{WeekMeant, OpenWeekly}

pub week_below : (t : ℕ) → week_second t < week
unfolding week_second
week_below t = omega arith

-- a later time while the week lasts, in the next week, and a week later
pub week_same : (t u d : ℕ) → u ≡ t + d → week_second t + d < week → week_second u ≡ week_second t + d
unfolding week_second
week_same t u d e h = omega arith

pub week_next : (t u d : ℕ) → u ≡ t + d → week ≤ week_second t + d → week_second t + d < week + week → week_second u + week ≡ week_second t + d
unfolding week_second
week_next t u d e h k = omega arith

week_later : (t : ℕ) → week_second (t + week) ≡ week_second t
unfolding week_second
week_later t = omega arith

pub week_meant_lem : WeekMeant
unfolding WeekMeant week_second
week_meant_lem = (λ s k h. omega arith, λ t h. omega arith)

-- the code's sum, which does not wrap
pub week_small : (t : ℕ) → (t % 604800 + 259200) % 604800 ≡ week_second t
unfolding week_second
week_small t = omega arith

-- open or not, by the second of the week
pub closed_at : (ws : List Window) (u s : ℕ) → week_second u ≡ s → blasting ws s ≡ true → is_open ws u ≡ false
unfolding is_open
closed_at ws u s e h = rw (e, h)

pub open_at : (ws : List Window) (u s : ℕ) → week_second u ≡ s → blasting ws s ≡ false → is_open ws u ≡ true
unfolding is_open
open_at ws u s e h = rw (e, h)

pub open_weekly_lem : OpenWeekly
unfolding OpenWeekly is_open
open_weekly_lem ws t = rw (week_later t)

-- each second of the week comes within a week from any time on
pub record Comes (t s u : ℕ) : Type 0 where
  pub after : t ≤ u
  pub soon : u < t + week
  pub there : week_second u ≡ s

pub comes : (t s : ℕ) → s < week → (u : ℕ) × Comes t s u
comes t s h = go (dec_le (week_second t) s) (week_below t)
  where
    go : Dec (week_second t ≤ s) → week_second t < week → (u : ℕ) × Comes t s u
    go (yes l) b =
        let d : ℕ = s - week_second t in
        let same : week_second (t + d) ≡ week_second t + d = week_same t (t + d) d refl (omega arith) in
        (t + d, record { after = omega arith; soon = omega arith; there = omega arith })
    go (no l) b =
        let d : ℕ = week - week_second t + s in
        let next : week_second (t + d) + week ≡ week_second t + d = week_next t (t + d) d refl (omega arith) (omega arith) in
        (t + d, record { after = omega arith; soon = omega arith; there = omega arith })
