-- Laws of one bit of a word. Assumes nothing.
use mathlib.Core.Path.{◌≡◌, refl, subst}
use mathlib.Core.Bool.{Bool, true, false, ◌||◌}
use mathlib.Core.Logic.{◌⊎◌, inl, inr}
use Prim.Native.Nat.{ℕ, zero, suc, ◌+◌, ◌-◌, ◌*◌, ◌/◌, ◌%◌, ◌^◌, ◌≤◌, ◌<◌, max}
use native.Mathlib.Nat.{mod-lt, div_self, div-eq_of_lt, mul-mod_left, mul-le-mul_right, lt_of_lt_of_le, pow-suc, zero-lt-suc}
use native.Mathlib.Omega.{arith}
use native.Mathlib.Decide.{dec_lt}
use lib.Dec.{eqb}
use lib.Arith.{digits_mod}
use lib.Pow.{pow_pos, pow-lt, pow-add, shl-shr}
use lib.Bits.{bit_and, bit_or, or_step, or_shr, and_high}
use borrow.Author.Tests.{eq-eqb, ne_eqb, eqb-true, eqb-false}
use Rattle.committee_set.specs.AuthoritySet.{bit}

pub two_pos : 0 < 2
two_pos = zero-lt-suc 1

-- a digit is 0 or 1
pub digit : (d : ℕ) → d < 2 → (d ≡ 0) ⊎ (d ≡ 1)
digit zero h = inl refl
digit (suc zero) h = inr refl
digit (suc (suc n)) h = absurd (omega arith)

max_two : (a b : ℕ) → a < 2 → b < 2 → max a b < 2
max_two a b h k = omega arith

or_low : (a b : ℕ) → bit_or a b % 2 ≡ max (a % 2) (b % 2)
or_low a b = rw or_step (digits_mod _ (max_two _ _ (mod-lt a two_pos) (mod-lt b two_pos)))

-- a bit of two words together is set where it is set in one of them
pub bit_or_lem : (a b i : ℕ) → bit (bit_or a b) i ≡ bit a i || bit b i
unfolding bit
bit_or_lem a b i = rw (or_shr, or_low (a / 2 ^ i) (b / 2 ^ i)) (both _ _ (digit _ (mod-lt (a / 2 ^ i) two_pos)) (digit _ (mod-lt (b / 2 ^ i) two_pos)))
  where
    both : (d e : ℕ) → (d ≡ 0) ⊎ (d ≡ 1) → (e ≡ 0) ⊎ (e ≡ 1) → eqb (max d e) 1 ≡ eqb d 1 || eqb e 1
    both d e (inl p) (inl q) = rw (p, q)
    both d e (inl p) (inr q) = rw (p, q)
    both d e (inr p) (inl q) = rw (p, q)
    both d e (inr p) (inr q) = rw (p, q)

-- no bit of the empty word is set
pub bit_zero : (i : ℕ) → bit 0 i ≡ false
unfolding bit
bit_zero i = rw (div-eq_of_lt (pow_pos i))

pow_same : (i : ℕ) → 2 ^ i / 2 ^ i % 2 ≡ 1
pow_same i = rw (div_self (pow_pos i))

pow_above : (d j : ℕ) → 2 ^ (suc d + j) / 2 ^ j % 2 ≡ 0
pow_above d j = rw (pow-add 2 (suc d) j, shl-shr (2 ^ suc d) j, pow-suc 2 d) (mul-mod_left (2 ^ d) 2)

pow_below : (i j : ℕ) → i < j → 2 ^ i / 2 ^ j % 2 ≡ 0
pow_below i j h = rw (div-eq_of_lt (pow-lt h))

pow_over : (i j : ℕ) → j < i → 2 ^ i / 2 ^ j % 2 ≡ 0
pow_over i j h =
    let e : suc (i - suc j) + j ≡ i = omega arith in
    subst (λ (n : ℕ). 2 ^ n / 2 ^ j % 2 ≡ 0) e (pow_above (i - suc j) j)

-- the mask of one bit has that bit alone
pub bit_pow : (i j : ℕ) → bit (2 ^ i) j ≡ eqb j i
unfolding bit
bit_pow i j = split (eqb j i) refl
  where
    order : Dec (j < i) → (j ≡ i → ⊥) → 2 ^ i / 2 ^ j % 2 ≡ 0
    order (yes h) ne = pow_over i j h
    order (no h) ne = pow_below i j (omega arith)

    split : (t : Bool) → eqb j i ≡ t → eqb (2 ^ i / 2 ^ j % 2) 1 ≡ t
    split true e = rw (eqb-true j i e, pow_same i)
    split false e = rw (order (dec_lt j i) (eqb-false j i e))

-- the test of a one-bit mask
pub mask_bit : (w i : ℕ) → eqb (bit_and w (2 ^ i)) (2 ^ i) ≡ bit w i
unfolding bit
mask_bit w i = rw one_high (each (w / 2 ^ i % 2) (digit _ (mod-lt (w / 2 ^ i) two_pos)))
  where
    one_high : bit_and w (2 ^ i) ≡ (w / 2 ^ i % 2) * 2 ^ i
    one_high =
        let e : 2 ^ (1 + i) - 2 ^ i ≡ 2 ^ i = rw (pow-add 2 1 i) (omega arith) in
        rw e at (and_high w 1 i)

    each : (d : ℕ) → (d ≡ 0) ⊎ (d ≡ 1) → eqb (d * 2 ^ i) (2 ^ i) ≡ eqb d 1
    each d (inl e) = rw e (ne_eqb (0 * 2 ^ i) (2 ^ i) (λ q. omega (arith, pow_pos i)))
    each d (inr e) = rw e (eq-eqb (1 * 2 ^ i) (2 ^ i) (omega arith))

-- no bit of a word is set past its width
pub bit_past : (n w i : ℕ) → w < 2 ^ n → n ≤ i → bit w i ≡ false
unfolding bit
bit_past n w i h k = rw (div-eq_of_lt (lt_of_lt_of_le h (wider (i - n) (omega arith))))
  where
    wider : (d : ℕ) → d + n ≡ i → 2 ^ n ≤ 2 ^ i
    wider d e = rw (← e, pow-add 2 d n) (omega (arith, mul-le-mul_right (2 ^ n) (pow_pos d)))
