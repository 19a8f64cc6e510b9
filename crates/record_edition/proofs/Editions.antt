-- The edition of a record and its time, in positions, as code tests them. Assumes nothing.
use mathlib.Core.Path.{◌≡◌, refl, sym, ap, ◌∙◌}
use mathlib.Core.List.{List, [], ◌∷◌}
use mathlib.Core.Option.{Option, none, some, some-injective, none-ne-some}
use mathlib.Core.Bool.{Bool, true, false, not, ◌&&◌, and-false}
use Prim.Native.Nat.{ℕ, ◌+◌, ◌*◌, ◌^◌, ◌≤◌, ◌<◌}
use native.Mathlib.Decide.{dec_lt, dec_le}
use native.Mathlib.Omega.{arith}
use lib.Dec.{ltb, eqb}
use lib.ListN.{length, get_or, take, drop, length-drop, take-append-drop}
use lib.Seq.{drop-cons, length-take-le}
use borrow.Author.Tests.{lt-ltb, le-ltb, eq-eqb, ne_eqb, eqb-true}
use Rattle.base.specs.Lists.{pick, same, is_none}
use Rattle.base.specs.Le.{le_at}
use Rattle.base.specs.Read.{Part, give, fail, onward, ◌>>=◌, number, given}
use Rattle.base.proofs.Tests.{not_both, and_right}
use Rattle.base.proofs.Le.{AllBytes, bytes_left, bytes_drop, le_number_lt, le_at_add}
use Rattle.base.proofs.Read.{part}
use Rattle.base.proofs.Fixed.{fixed_number, short_at, number_at}
use Rattle.record_spec.specs.Record.{Edition, old, timed, edition_bytes, read_time, edition_of, body_from, body_start}
use Rattle.record_edition.specs.Step.{edition_right}

-- ---- the three bytes

-- the first of an edition's three bytes
first_of : Edition → ℕ
first_of old = 0
first_of timed = 2

same_three : (e : Edition) (a b c : ℕ) → same (a ∷ b ∷ c ∷ []) (edition_bytes e) ≡ eqb a (first_of e) && (eqb b 0 && (eqb c 0 && true))
unfolding same edition_bytes first_of
same_three old a b c = refl
same_three timed a b c = refl

word_small : (s : List ℕ) → AllBytes s → 72 ≤ length s → le_at 8 s 56 < 18446744073709551616
unfolding le_at
word_small s b k =
    let l : length (take 8 (drop 56 s)) ≡ 8 = length-take-le 8 (drop 56 s) (omega (arith, length-drop 56 s)) in
    rw l at (le_number_lt (take 8 (drop 56 s)) (bytes_left (take 8 (drop 56 s)) (drop 8 (drop 56 s)) (rw (take-append-drop 8 (drop 56 s)) (bytes_drop 56 s b))))

-- as code tests the time, in two words: it is below 2^64 where the upper word is zero
time_test : (s : List ℕ) → AllBytes s → 72 ≤ length s → ltb (le_at 16 s 56) 18446744073709551616 ≡ eqb (le_at 8 s 64) 0
time_test s b k = go (dec_lt 0 (le_at 8 s 64))
  where
    parts : le_at 16 s 56 ≡ le_at 8 s 56 + 18446744073709551616 * le_at 8 s 64
    parts = le_at_add 8 8 s 56 (omega arith)

    go : Dec (0 < le_at 8 s 64) → ltb (le_at 16 s 56) 18446744073709551616 ≡ eqb (le_at 8 s 64) 0
    go (yes u) = le-ltb (le_at 16 s 56) 18446744073709551616 (omega (arith, parts)) ∙ sym (ne_eqb (le_at 8 s 64) 0 (λ (e : le_at 8 s 64 ≡ 0). omega arith))
    go (no u) = lt-ltb (le_at 16 s 56) 18446744073709551616 (omega (arith, parts, word_small s b k)) ∙ sym (eq-eqb (le_at 8 s 64) 0 (omega arith))

module _ (s : List ℕ) (long : 56 ≤ length s) where
  three : take 3 (drop 53 s) ≡ get_or s 53 0 ∷ get_or s 54 0 ∷ get_or s 55 0 ∷ []
  three = rw (drop-cons s 53 0 (omega arith), drop-cons s 54 0 (omega arith), drop-cons s 55 0 (omega arith))

  -- where the test of the three bytes fails
  not_three : same (take 3 (drop 53 s)) (edition_bytes (edition_of s)) ≡ false → edition_right s ≡ false
  unfolding edition_right
  not_three h = rw h

  same_here : same (take 3 (drop 53 s)) (edition_bytes (edition_of s)) ≡ eqb (get_or s 53 0) (first_of (edition_of s)) &&
      (eqb (get_or s 54 0) 0 && (eqb (get_or s 55 0) 0 && true))
  same_here = rw three (same_three (edition_of s) (get_or s 53 0) (get_or s 54 0) (get_or s 55 0))

  pub not_second : (get_or s 54 0 ≡ 0 → ⊥) → edition_right s ≡ false
  not_second h = not_three (same_here ∙ rw (ne_eqb (get_or s 54 0) 0 h) (and-false (eqb (get_or s 53 0) (first_of (edition_of s)))))

  pub not_third : (get_or s 55 0 ≡ 0 → ⊥) → edition_right s ≡ false
  not_third h = not_three (same_here ∙ rw (ne_eqb (get_or s 55 0) 0 h, and-false (eqb (get_or s 54 0) 0))
      (and-false (eqb (get_or s 53 0) (first_of (edition_of s)))))

  pub is_neither : (get_or s 53 0 ≡ 0 → ⊥) → (get_or s 53 0 ≡ 2 → ⊥) → edition_right s ≡ false
  unfolding edition_of first_of
  is_neither h k = not_three (same_here ∙ rw (ne_eqb (get_or s 53 0) 2 k, ne_eqb (get_or s 53 0) 0 h))

  pub is_old : get_or s 53 0 ≡ 0 → get_or s 54 0 ≡ 0 → get_or s 55 0 ≡ 0 → edition_right s ≡ true
  unfolding edition_right edition_of same edition_bytes read_time give is_none
  is_old h i j = rw (three, h, i, j)

  -- ---- the time

  module _ (second : get_or s 53 0 ≡ 2) where
    pub is_short : length s < 72 → edition_right s ≡ false
    unfolding edition_right edition_of read_time ◌>>=◌ onward is_none
    is_short k = rw (second, short_at (number 16) 16 (fixed_number 16) s 56 (omega arith)) (and-false (same (take 3 (drop 53 s)) (edition_bytes timed)))

    pub is_timed : AllBytes s → 72 ≤ length s → get_or s 54 0 ≡ 0 → get_or s 55 0 ≡ 0 → edition_right s ≡ eqb (le_at 8 s 64) 0
    unfolding edition_right edition_of same edition_bytes read_time ◌>>=◌ onward given give fail is_none
    is_timed b k i j = rw (three, second, i, j, number_at 16 s 56 (omega arith), time_test s b k) (go (eqb (le_at 8 s 64) 0))
      where
        go : (t : Bool) → not (is_none (given t (give (some (le_at 16 s 56))) (drop 72 s))) ≡ t
        go true = refl
        go false = refl

-- ---- what was read where the edition is right

pub record TimeRead (s : List ℕ) (e : Edition) : Type 0 where
  pub value : Option ℕ
  pub reads : read_time e (drop 56 s) ≡ some (part value (drop (body_from e) s))
  pub inside : body_from e ≤ length s

time_read_in : (s : List ℕ) → 56 ≤ length s → (e : Edition) → not (is_none (read_time e (drop 56 s))) ≡ true → TimeRead s e
unfolding read_time body_from give ◌>>=◌ onward given fail is_none
time_read_in s long old h = record { value = none; reads = refl; inside = long }
time_read_in s long timed h = go (dec_le 72 (length s))
  where
    test : (t : Bool) → ltb (le_at 16 s 56) 18446744073709551616 ≡ t → 72 ≤ length s → TimeRead s timed
    test true e k = record { value = some (le_at 16 s 56); reads = rw (number_at 16 s 56 (omega arith), e); inside = k }
    test false e k = absurd (not_both h (rw (number_at 16 s 56 (omega arith), e)))

    go : Dec (72 ≤ length s) → TimeRead s timed
    go (yes k) = test (ltb (le_at 16 s 56) 18446744073709551616) refl k
    go (no k) = absurd (not_both h (rw (short_at (number 16) 16 (fixed_number 16) s 56 (omega arith))))

pub time_read : (s : List ℕ) → 56 ≤ length s → edition_right s ≡ true → TimeRead s (edition_of s)
unfolding edition_right
time_read s long h = time_read_in s long (edition_of s) (and_right (same (take 3 (drop 53 s)) (edition_bytes (edition_of s))) _ h)

pub body_inside : (s : List ℕ) → 56 ≤ length s → edition_right s ≡ true → body_start s ≤ length s
unfolding body_start
body_inside s long h = (time_read s long h).inside

timed_is : (s : List ℕ) → get_or s 53 0 ≡ 2 → edition_of s ≡ timed
unfolding edition_of
timed_is s h = rw h

old_is : (s : List ℕ) → (get_or s 53 0 ≡ 2 → ⊥) → edition_of s ≡ old
unfolding edition_of
old_is s h = rw (ne_eqb (get_or s 53 0) 2 h)

module _ (s : List ℕ) (long : 56 ≤ length s) where
  some_in : AllBytes s → (e : Edition) → e ≡ timed → (r : TimeRead s e) → some (le_at 8 s 56) ≡ r.value
  unfolding read_time give body_from ◌>>=◌ onward given fail first_of
  some_in b old h r = absurd (two (ap first_of h))
    where
      two : ◌≡◌ {A = ℕ} 0 2 → ⊥
      two e = omega arith
  some_in b timed h r = test (ltb (le_at 16 s 56) 18446744073709551616) refl (rw (number_at 16 s 56 r.inside) at r.reads)
    where
      test : (t : Bool) → ltb (le_at 16 s 56) 18446744073709551616 ≡ t → pick t (give (some (le_at 16 s 56))) fail (drop 72 s) ≡ some
          (part r.value (drop 72 s)) → some (le_at 8 s 56) ≡ r.value
      test true e k =
          let whole : le_at 16 s 56 ≡ le_at 8 s 56 = le_at_add 8 8 s 56 (omega (arith, r.inside)) ∙ lower (time_test s b r.inside) in
          rw (← whole) (ap (λ (p : Part (Option ℕ)). p.value) (some-injective _ _ k))
        where
          lower : ltb (le_at 16 s 56) 18446744073709551616 ≡ eqb (le_at 8 s 64) 0 → le_at 8 s 56 + 256 ^ 8 * le_at 8 s 64 ≡ le_at 8 s 56
          lower u = omega (arith, eqb-true (le_at 8 s 64) 0 (sym u ∙ e))
      test false e k = absurd (none-ne-some _ k)

  pub time_some : AllBytes s → (h : edition_right s ≡ true) → get_or s 53 0 ≡ 2 → some (le_at 8 s 56) ≡ (time_read s long h).value
  time_some b h k = some_in b (edition_of s) (timed_is s k) (time_read s long h)

  none_in : (e : Edition) → e ≡ old → (r : TimeRead s e) → none ≡ r.value
  unfolding read_time give body_from first_of
  none_in old h r = ap (λ (p : Part (Option ℕ)). p.value) (some-injective _ _ r.reads)
  none_in timed h r = absurd (two (ap first_of h))
    where
      two : ◌≡◌ {A = ℕ} 2 0 → ⊥
      two e = omega arith

  pub time_none : (h : edition_right s ≡ true) → (get_or s 53 0 ≡ 2 → ⊥) → none ≡ (time_read s long h).value
  time_none h k = none_in (edition_of s) (old_is s k) (time_read s long h)

-- ---- the code's answers

pub body_timed : (s : List ℕ) → get_or s 53 0 ≡ 2 → 72 ≡ body_start s
unfolding body_start edition_of body_from
body_timed s h = rw h

pub body_old : (s : List ℕ) → (get_or s 53 0 ≡ 2 → ⊥) → 56 ≡ body_start s
unfolding body_start edition_of body_from
body_old s h = rw (ne_eqb (get_or s 53 0) 2 h)

-- 56 or 72
pub body_small : (s : List ℕ) → body_start s ≤ 72
unfolding body_start body_from
body_small s = go (edition_of s)
  where
    go : (e : Edition) → body_from e ≤ 72
    go old = omega arith
    go timed = omega arith
