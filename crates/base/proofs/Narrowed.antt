-- Binary search: what is known of the indices on both sides of the stretch that is left. Assumes nothing.
use mathlib.Core.Path.{◌≡◌}
use mathlib.Core.Logic.{◌⊎◌, inl, inr}
use Prim.Native.Nat.{ℕ, ◌+◌, ◌≤◌, ◌<◌}
use native.Mathlib.Omega.{arith}
use native.Mathlib.Decide.{dec_lt, ℕ_discrete}

-- of n indices those below low are Low, those from high on are High
pub record Narrowed (n : ℕ) (Low High : ℕ → Type 0) (low high : ℕ) : Type 0 where
  pub order : low ≤ high
  pub inside : high ≤ n
  pub below : (j : ℕ) → j < low → Low j
  pub above : (j : ℕ) → high ≤ j → j < n → High j

module _ (n : ℕ) (Low High : ℕ → Type 0) where
  pub narrowed_start : Narrowed n Low High 0 n
  narrowed_start = record { order = omega arith; inside = omega arith; below = λ j h. absurd (omega arith); above = λ j h k. absurd (omega arith) }

  -- the middle is Low, and with it all below
  pub narrowed_up : (low high m : ℕ) → ((i : ℕ) → i < m → Low i) → Low m → m < high → Narrowed n Low High low high → Narrowed n Low High (m + 1) high
  narrowed_up low high m down h k r = record { order = omega arith; inside = r.inside; below = λ j l. go j l (dec_lt j m); above = r.above }
    where
      go : (j : ℕ) → j < m + 1 → Dec (j < m) → Low j
      go j l (yes q) = down j q
      go j l (no q) = at (ℕ_discrete j m)
        where
          at : Dec (j ≡ m) → Low j
          at (yes e) = rw e h
          at (no e) = absurd (e (omega arith))

  -- the middle is High, and with it all above
  pub narrowed_down : (low high m : ℕ) → ((i : ℕ) → m < i → i < n → High i) → High m → low ≤ m → m < high → Narrowed n Low High low high → Narrowed n Low High
      low m
  narrowed_down low high m up h l k r = record { order = l; inside = omega (arith, r.inside); below = r.below; above = λ j a b. go j a b (dec_lt m j) }
    where
      go : (j : ℕ) → m ≤ j → j < n → Dec (m < j) → High j
      go j a b (yes q) = up j q b
      go j a b (no q) = at (ℕ_discrete j m)
        where
          at : Dec (j ≡ m) → High j
          at (yes e) = rw e h
          at (no e) = absurd (e (omega arith))

  -- where nothing is left, every index is one of the two
  pub narrowed_all : (low high : ℕ) → high ≤ low → Narrowed n Low High low high → (j : ℕ) → j < n → Low j ⊎ High j
  narrowed_all low high h r j k = go (dec_lt j low)
    where
      go : Dec (j < low) → Low j ⊎ High j
      go (yes l) = inl (r.below j l)
      go (no l) = inr (r.above j (omega arith) k)
