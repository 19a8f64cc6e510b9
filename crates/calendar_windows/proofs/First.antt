-- The first open second. Assumes nothing.
use mathlib.Core.Path.{◌≡◌, refl, sym, ap, ◌∙◌}
use mathlib.Core.Logic.{◌⊎◌, inl, inr}
use mathlib.Core.Bool.{Bool, true, false}
use mathlib.Core.List.{List}
use mathlib.Core.Option.{Option, none, some, some-injective, none-ne-some}
use Prim.Native.Nat.{ℕ, zero, suc, ◌+◌, ◌-◌, ◌≤◌, ◌<◌}
use native.Mathlib.Omega.{arith}
use native.Mathlib.Decide.{dec_lt, dec_le}
use Rattle.base.specs.Lists.{pick}
use Rattle.base.proofs.Tests.{not_both}
use Rattle.calendar_windows.specs.Calendar.{Window, week, last_second, week_second, blasting, is_open, FirstOpen, first_among, first_open}
use Rattle.calendar_windows.specs.Claims.{FoundMeant, FillWeek, PassesCount, NoneMeant, WithinWeek, OpenWeekly, FoundWeekly, NoneWeekly}
use Rattle.calendar_windows.proofs.Weeks.{week_below, comes, Comes, closed_at, open_at, open_weekly_lem}

-- ---- among n seconds

-- what was found, or that all are closed
data Among (n : ℕ) (ws : List Window) (t : ℕ) : Option ℕ → Type 0 where
  first : (r : ℕ) → FirstOpen ws t r → r < t + n → Among n ws t (some r)
  closed : ((u : ℕ) → t ≤ u → u < t + n → is_open ws u ≡ false) → Among n ws t none

among : (n : ℕ) (ws : List Window) (t : ℕ) → Among n ws t (first_among n ws t)
unfolding first_among
among zero ws t = closed (λ u h k. absurd (omega arith))
among (suc n) ws t = go (is_open ws t) refl (first_among n ws (t + 1)) (among n ws (t + 1))
  where
    go : (o : Bool) → is_open ws t ≡ o → (x : Option ℕ) → Among n ws (t + 1) x → Among (suc n) ws t (pick o (some t) x)
    go true e x a = first t (record { opens = e; after = omega arith; earliest = λ u h k. absurd (omega arith) }) (omega arith)
    go false e x (first r f k) =
        first r (record { opens = f.opens; after = omega (arith, f.after); earliest = λ u h l. by u h l (dec_lt t u) }) (omega arith)
      where
        by : (u : ℕ) → t ≤ u → u < r → Dec (t < u) → is_open ws u ≡ false
        by u h l (yes m) = f.earliest u (omega arith) l
        by u h l (no m) = let same : u ≡ t = omega arith in rw same e
    go false e x (closed f) = closed (λ u h l. by u h l (dec_lt t u))
      where
        by : (u : ℕ) → t ≤ u → u < t + suc n → Dec (t < u) → is_open ws u ≡ false
        by u h l (yes m) = f u (omega arith) (omega arith)
        by u h l (no m) = let same : u ≡ t = omega arith in rw same e

one_first : (ws : List Window) (t q r : ℕ) → FirstOpen ws t q → FirstOpen ws t r → q ≡ r
one_first ws t q r f g = omega (arith, less, more)
  where
    less : ¬ (r < q)
    less h = not_both g.opens (f.earliest r g.after h)

    more : ¬ (q < r)
    more h = not_both f.opens (g.earliest q f.after h)

-- ---- up to the count's end

pub found_meant_lem : FoundMeant
unfolding FoundMeant first_open
found_meant_lem ws t r = (λ h. there (among (last_second + 1 - t) ws t) h, λ p. back p (among (last_second + 1 - t) ws t))
  where
    there : {x : Option ℕ} → Among (last_second + 1 - t) ws t x → x ≡ some r → FirstOpen ws t r × (r ≤ last_second)
    there (first q f k) h = let same : q ≡ r = some-injective _ _ h in rw (← same) ((f, omega (arith, f.after)))
    there (closed f) h = absurd (none-ne-some r h)

    back : FirstOpen ws t r × (r ≤ last_second) → {x : Option ℕ} → Among (last_second + 1 - t) ws t x → x ≡ some r
    back (g, l) (first q f k) = ap some (one_first ws t q r f g)
    back (g, l) (closed f) = absurd (not_both g.opens (f r g.after (omega (arith, g.after))))

-- all seconds of a week from some time on are closed: the windows fill the week
fills : (ws : List Window) (t : ℕ) → ((u : ℕ) → t ≤ u → u < t + week → is_open ws u ≡ false) → FillWeek ws
unfolding FillWeek
fills ws t f s h = go (blasting ws s) refl (comes t s h)
  where
    go : (b : Bool) → blasting ws s ≡ b → (u : ℕ) × Comes t s u → b ≡ true
    go true e x = refl
    go false e (u, m) = absurd (not_both (open_at ws u s m.there e) (f u m.after m.soon))

pub none_meant_lem : NoneMeant
unfolding NoneMeant FillWeek PassesCount first_open
none_meant_lem ws t = (λ h. there (among (last_second + 1 - t) ws t) h, λ p. back p (among (last_second + 1 - t) ws t))
  where
    week_from : ((u : ℕ) → t ≤ u → u < t + (last_second + 1 - t) → is_open ws u ≡ false) → {x : Option ℕ} → Among week ws t x → FillWeek ws ⊎ PassesCount ws t
    week_from f (first r g k) = inr (r, (g, past (dec_le r last_second)))
      where
        past : Dec (r ≤ last_second) → last_second < r
        past (yes l) = absurd (not_both g.opens (f r g.after (omega (arith, g.after))))
        past (no l) = omega arith
    week_from f (closed g) = inl (fills ws t g)

    there : {x : Option ℕ} → Among (last_second + 1 - t) ws t x → x ≡ none → FillWeek ws ⊎ PassesCount ws t
    there (first r f k) h = absurd (none-ne-some r (sym h))
    there (closed f) h = week_from f (among week ws t)

    back : FillWeek ws ⊎ PassesCount ws t → {x : Option ℕ} → Among (last_second + 1 - t) ws t x → x ≡ none
    back p (closed f) = refl
    back (inl w) (first q f k) = absurd (not_both f.opens (closed_at ws q (week_second q) refl (w (week_second q) (week_below q))))
    back (inr (r, (g, l))) (first q f k) = let same : q ≡ r = one_first ws t q r f g in absurd (omega (arith, f.after))

-- ---- a week from any time on

pub within_week_lem : WithinWeek
unfolding WithinWeek FillWeek
within_week_lem ws s t h e = go (among week ws t)
  where
    go : {x : Option ℕ} → Among week ws t x → (r : ℕ) × (FirstOpen ws t r × (r < t + week))
    go (first r f k) = (r, (f, k))
    go (closed f) = absurd (not_both (fills ws t f s h) e)

-- ---- a week later

later : (ws : List Window) (t r : ℕ) → FirstOpen ws t r → FirstOpen ws (t + week) (r + week)
unfolding OpenWeekly
later ws t r f =
    record {
      opens = open_weekly_lem ws r ∙ f.opens;
      after = omega (arith, f.after);
      earliest = λ u h k. by u h k;
    }
  where
    by : (u : ℕ) → t + week ≤ u → u < r + week → is_open ws u ≡ false
    by u h k =
        let same : u ≡ u - week + week = omega arith in
        ap (is_open ws) same ∙ open_weekly_lem ws (u - week) ∙ f.earliest (u - week) (omega arith) (omega arith)

pub found_weekly_lem : FoundWeekly
unfolding FoundWeekly FoundMeant
found_weekly_lem ws t r h k = (found_meant_lem ws (t + week) (r + week)).1 (later ws t r ((found_meant_lem ws t r).0 h).0, k)

pub none_weekly_lem : NoneWeekly
unfolding NoneWeekly NoneMeant PassesCount
none_weekly_lem ws t h = (none_meant_lem ws (t + week)).1 (alike ((none_meant_lem ws t).0 h))
  where
    alike : FillWeek ws ⊎ PassesCount ws t → FillWeek ws ⊎ PassesCount ws (t + week)
    alike (inl w) = inl w
    alike (inr p) = inr (p.0 + week, (later ws t p.0 p.1.0, omega (arith, p.1.1)))
