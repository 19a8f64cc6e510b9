-- Text in a buffer. Assumes nothing.
use mathlib.Core.Path.{◌≡◌, refl, sym, ap, ◌∙◌}
use mathlib.Core.Bool.{Bool, true, false}
use mathlib.Core.List.{List, [], ◌∷◌, ◌++◌, map, flatten, append_assoc, append-nil}
use Prim.Native.Nat.{ℕ, zero, suc, ◌+◌, ◌*◌, ◌/◌, ◌%◌, ◌^◌, ◌-◌, ◌≤◌, ◌<◌}
use native.Mathlib.Numerals.{add-one, sub-one}
use native.Mathlib.Nat.{pow-suc}
use native.Mathlib.Omega.{arith}
use lib.Dec.{ltb}
use lib.ListN.{length, get_or, take, set, length-append}
use lib.Seq.{length-sets, take-suc, length-take-le}
use borrow.Author.Tests.{lt-ltb, le-ltb}
use Rattle.base.specs.Lists.{pick}
use Rattle.base.proofs.Le.{sets_append}
use Rattle.listing_text.specs.Text.{digits_in, decimal, hex_digit, hex, fields, line, Wrote, numbers, number_line}

-- nothing written
pub wrote_none : (l : List ℕ) (p : ℕ) → p ≤ length l → Wrote l l p p []
wrote_none l p h = record { bytes = refl; end = omega arith; fits = h }

-- one text after another
pub wrote_on : {l m n : List ℕ} {p q r : ℕ} {s t : List ℕ} → Wrote l m p q s → Wrote m n q r t → Wrote l n p r (s ++ t)
wrote_on {l} {m} {n} {p} {q} {r} {s} {t} v w =
    record {
      bytes = w.bytes ∙ rw (v.bytes, v.end) (sym (sets_append s t l p));
      end = w.end ∙ rw (v.end, length-append s t) (omega arith);
      fits = omega (arith, w.fits, same);
    }
  where
    same : length m ≡ length l
    same = ap length v.bytes ∙ length-sets l p s

-- one byte more
pub wrote_byte : {l m : List ℕ} {p q : ℕ} {s : List ℕ} (b : ℕ) → Wrote l m p q s → q < length m → Wrote l (set m q b) p (q + 1) (s ++ (b ∷ []))
wrote_byte {l} {m} {p} {q} {s} b v h = wrote_on v (record { bytes = refl; end = omega arith; fits = omega arith })

pub length_wrote : {l m : List ℕ} {p q : ℕ} {s : List ℕ} → Wrote l m p q s → length m ≡ length l
length_wrote {l} {m} {p} {q} {s} v = ap length v.bytes ∙ length-sets l p s

-- the same text by another name
pub wrote_same : {l m : List ℕ} {p q : ℕ} {s t : List ℕ} → s ≡ t → Wrote l m p q s → Wrote l m p q t
wrote_same {l} {m} {p} {q} e v = rw e at v

-- ---- decimal

-- a digit more is not used
steady : (k n : ℕ) → n < 10 ^ suc k → digits_in (suc (suc k)) n ≡ digits_in (suc k) n
unfolding digits_in
steady zero n h = rw (lt-ltb n 10 h)
steady (suc k) n h =
    let below : n < 10 ^ suc k * 10 = rw (pow-suc 10 (suc k)) at h in
    rw (steady k (n / 10) (omega arith))

length_digits_in : (k n : ℕ) → length (digits_in k n) ≤ k
unfolding digits_in
length_digits_in zero n = omega arith
length_digits_in (suc k) n = go (ltb n 10) (length_digits_in k (n / 10))
  where
    go : (t : Bool) → length (digits_in k (n / 10)) ≤ k → length (pick t ((48 + n) ∷ []) (digits_in k (n / 10) ++ ((48 + n % 10) ∷ []))) ≤ suc k
    go true h = omega arith
    go false h = rw (length-append (digits_in k (n / 10)) ((48 + n % 10) ∷ [])) (omega arith)

pub length_decimal : (n : ℕ) → length (decimal n) ≤ 20
unfolding decimal
length_decimal n = length_digits_in 20 n

-- a number of one digit
pub decimal_one : (n : ℕ) → n < 10 → decimal n ≡ (48 + n) ∷ []
unfolding decimal digits_in
decimal_one n h = rw (lt-ltb n 10 h)

module _ (n : ℕ) (h : n < 18446744073709551616) where
  tenth : decimal (n / 10) ≡ digits_in 19 (n / 10)
  unfolding decimal
  tenth = steady 18 (n / 10) (omega arith)

  -- the last digit comes after those of a tenth
  pub decimal_more : 10 ≤ n → decimal n ≡ decimal (n / 10) ++ ((48 + n % 10) ∷ [])
  unfolding decimal digits_in
  decimal_more k = rw (le-ltb n 10 k) (rw tenth refl)

  pub length_tenth : length (decimal (n / 10)) ≤ 19
  length_tenth = rw tenth (length_digits_in 19 (n / 10))

-- ---- hex

pub length_hex : (k n : ℕ) → length (hex k n) ≡ k
unfolding hex
length_hex zero n = refl
length_hex (suc k) n = length-append (hex k (n / 16)) (hex_digit (n % 16) ∷ []) ∙ omega (arith, length_hex k (n / 16))

pub hex_none : (n : ℕ) → hex 0 n ≡ []
unfolding hex
hex_none n = refl

pub hex_more : (k n : ℕ) → (k ≡ 0 → ⊥) → hex k n ≡ hex (k - 1) (n / 16) ++ (hex_digit (n % 16) ∷ [])
unfolding hex
hex_more zero n h = absurd (h refl)
hex_more (suc k) n h = rw (sub-one (suc k))

-- ---- numbers after spaces

pub numbers_none : (ns : List ℕ) → numbers (take 0 ns) ≡ []
unfolding numbers fields flatten
numbers_none ns = refl

numbers_append : (ns ms : List ℕ) → numbers (ns ++ ms) ≡ numbers ns ++ numbers ms
unfolding numbers fields flatten
numbers_append [] ms = refl
numbers_append (n ∷ ns) ms = ap (λ (l : List ℕ). 32 ∷ decimal n ++ l) (numbers_append ns ms) ∙ sym (append_assoc (32 ∷ decimal n) (numbers ns) (numbers ms))

numbers_one : (n : ℕ) → numbers (n ∷ []) ≡ 32 ∷ decimal n
unfolding numbers fields flatten
numbers_one n = append-nil (32 ∷ decimal n)

pub numbers_next : (ns : List ℕ) (i : ℕ) → i < length ns → numbers (take (i + 1) ns) ≡ numbers (take i ns) ++ (32 ∷ decimal (get_or ns i 0))
numbers_next ns i h = rw (add-one, take-suc ns i 0 h, numbers_append (take i ns) (get_or ns i 0 ∷ []), numbers_one (get_or ns i 0))

pub length_numbers : (ns : List ℕ) → length (numbers ns) ≤ 21 * length ns
unfolding numbers fields flatten
length_numbers [] = omega arith
length_numbers (n ∷ ns) = rw (length-append (32 ∷ decimal n) (numbers ns)) (omega (arith, length_numbers ns, length_decimal n))

-- the room that the numbers before one take
pub numbers_room : (ns : List ℕ) (i : ℕ) → i ≤ length ns → length (numbers (take i ns)) ≤ 21 * i
numbers_room ns i h = rw (length-take-le i ns h) at (length_numbers (take i ns))

-- one number more
pub wrote_number : {l m n : List ℕ} {p q r : ℕ} (ns : List ℕ) (i : ℕ) → i < length ns → q < length m
    → Wrote l m p q (numbers (take i ns)) → Wrote (set m q 32) n (q + 1) r (decimal (get_or ns i 0)) → Wrote l n p r (numbers (take (i + 1) ns))
wrote_number ns i h k v w =
    wrote_same (append_assoc (numbers (take i ns)) (32 ∷ []) (decimal (get_or ns i 0)) ∙ sym (numbers_next ns i h)) (wrote_on (wrote_byte 32 v k) w)

pub length_number_line : (name ns : List ℕ) (b : ℕ) → length (number_line name ns b) ≤ length name + 21 * length ns + 1
unfolding number_line
length_number_line name ns b = simp length-append (omega (arith, length_numbers ns))

two : (a b : ℕ) (f : List ℕ) (ns : List ℕ) → numbers (a ∷ b ∷ []) ++ (32 ∷ f ++ numbers ns) ≡ fields (decimal a ∷ decimal b ∷ f ∷ map decimal ns)
unfolding numbers fields flatten
two a b f ns =
    append_assoc (32 ∷ decimal a) ((32 ∷ decimal b) ++ []) (32 ∷ f ++ numbers ns)
    ∙ ap (λ (l : List ℕ). 32 ∷ decimal a ++ (l ++ (32 ∷ f ++ numbers ns))) (append-nil (32 ∷ decimal b))

-- a line with a field among its numbers that is no number
around : (name front f rest : List ℕ) → ((name ++ (front ++ (32 ∷ []))) ++ f) ++ ([] ++ (rest ++ (10 ∷ []))) ≡ name ++
    ((front ++ (32 ∷ f ++ rest)) ++ (10 ∷ []))
around name front f rest =
    append_assoc (name ++ (front ++ (32 ∷ []))) f (rest ++ (10 ∷ []))
    ∙ append_assoc name (front ++ (32 ∷ [])) (f ++ (rest ++ (10 ∷ [])))
    ∙ ap (λ (l : List ℕ). name ++ l)
    (append_assoc front (32 ∷ []) (f ++ (rest ++ (10 ∷ [])))
    ∙ ap (λ (l : List ℕ). front ++ (32 ∷ l)) (sym (append_assoc f rest (10 ∷ [])))
    ∙ sym (append_assoc front (32 ∷ f ++ rest) (10 ∷ [])))

pub line_around : (name f : List ℕ) (a b : ℕ) (ns : List ℕ)
    → (number_line name (a ∷ b ∷ []) 32 ++ f) ++ number_line [] ns 10 ≡ line name (decimal a ∷ decimal b ∷ f ∷ map decimal ns)
unfolding number_line numbers line fields
line_around name f a b ns = around name (numbers (a ∷ b ∷ [])) f (numbers ns) ∙ ap (λ (l : List ℕ). name ++ (l ++ (10 ∷ []))) (two a b f ns)
