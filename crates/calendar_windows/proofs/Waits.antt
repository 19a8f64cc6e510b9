-- From where blasting ends to the first open second. Assumes nothing.
use mathlib.Core.Path.{◌≡◌, refl, sym, ◌∙◌}
use mathlib.Core.Logic.{inl, inr}
use mathlib.Core.Bool.{true, false}
use mathlib.Core.List.{List}
use mathlib.Core.Option.{none, some}
use Prim.Native.Nat.{ℕ, ◌+◌, ◌-◌, ◌≤◌, ◌<◌}
use native.Mathlib.Omega.{arith}
use native.Mathlib.Decide.{dec_lt}
use Rattle.calendar_windows.specs.Calendar.{Window, week, last_second, week_second, is_open, FirstOpen, first_open}
use Rattle.calendar_windows.specs.Free.{Free}
use Rattle.calendar_windows.specs.Claims.{FoundMeant, FillWeek, PassesCount, NoneMeant}
use Rattle.calendar_windows.proofs.Weeks.{week_below, week_same, week_next, closed_at, open_at}
use Rattle.calendar_windows.proofs.First.{found_meant_lem, none_meant_lem}

module _ (ws : List Window) where
  -- open where the second itself is free
  pub open_free : (t s r : ℕ) → s ≡ week_second t → Free ws s r → r ≡ s → is_open ws t ≡ true
  open_free t s r e f h = open_at ws t r (cc) f.quiet

  pub closed_later : (t s r : ℕ) → s ≡ week_second t → Free ws s r → (r ≡ s → ⊥) → is_open ws t ≡ false
  closed_later t s r e f n = closed_at ws t s (sym e) (f.blasts s (omega arith) (omega (arith, f.onward, n)))

  -- the week is full
  pub full_week : (z t : ℕ) → Free ws 0 z → week ≤ z → first_open ws t ≡ none
  unfolding NoneMeant FillWeek
  full_week z t f h = (none_meant_lem ws t).1 (inl (λ s k. f.blasts s (omega arith) (omega arith)))

  -- blasting ends in this week
  pub this_week : (t r : ℕ) → Free ws (week_second t) r → r < week → FirstOpen ws t (t + (r - week_second t))
  this_week t r f h =
      let l : week_second t ≤ r = f.onward in
      let b : week_second t < week = week_below t in
      record {
        opens = open_at ws (t + (r - week_second t)) r (week_same t (t + (r - week_second t)) (r - week_second t) refl (omega arith) ∙ omega arith) f.quiet;
        after = omega arith;
        earliest = λ u i (k : u < t + (r - week_second t)). closed_at ws u (week_second t + (u - t)) (week_same t u (u - t) (omega arith) (omega arith))
            (f.blasts (week_second t + (u - t)) (omega arith) (omega arith));
      }

  -- it lasts until the week's end, and then as long as at the week's beginning
  pub next_week : (t r z : ℕ) → Free ws (week_second t) r → week ≤ r → Free ws 0 z → z < week → FirstOpen ws t (t + (week - week_second t + z))
  next_week t r z f h g k =
      let b : week_second t < week = week_below t in
      let next : week_second (t + (week - week_second t + z)) + week ≡ week_second t + (week - week_second t + z) = week_next t (t + (week - week_second t + z))
      (week - week_second t + z) refl (omega arith) (omega arith) in
      record {
        opens = open_at ws (t + (week - week_second t + z)) z (omega arith) g.quiet;
        after = omega arith;
        earliest = λ u i l. by b u i l (dec_lt (week_second t + (u - t)) week);
      }
    where
      by : week_second t < week → (u : ℕ) → t ≤ u → u < t + (week - week_second t + z) → Dec (week_second t + (u - t) < week) → is_open ws u ≡ false
      by b u i l (yes m) = closed_at ws u (week_second t + (u - t)) (week_same t u (u - t) (omega arith) m)
          (f.blasts (week_second t + (u - t)) (omega arith) (omega arith))
      by b u i l (no m) =
          let e : week_second u + week ≡ week_second t + (u - t) = week_next t u (u - t) (omega arith) (omega arith) (omega arith) in
          closed_at ws u (week_second u) refl (g.blasts (week_second u) (omega arith) (omega arith))

  -- within the count, or past its end
  pub in_count : (t r : ℕ) → FirstOpen ws t r → r ≤ last_second → first_open ws t ≡ some r
  unfolding FoundMeant
  in_count t r f h = (found_meant_lem ws t r).1 (f, h)

  pub past_count : (t r : ℕ) → FirstOpen ws t r → last_second < r → first_open ws t ≡ none
  unfolding NoneMeant PassesCount
  past_count t r f h = (none_meant_lem ws t).1 (inr (r, (f, h)))
