-- Laws of little-endian numbers: there and back, in two parts, and under stores. Assumes nothing.
use mathlib.Core.Path.{◌≡◌, refl, sym, ap, ◌∙◌}
use mathlib.Core.List.{List, [], ◌∷◌, ◌++◌}
use Prim.Native.Nat.{ℕ, zero, suc, ◌+◌, ◌*◌, ◌/◌, ◌%◌, ◌^◌, ◌≤◌, ◌<◌}
use native.Mathlib.Nat.{pow-suc, pow-succ', zero-add, add-zero, add-suc, suc-add, div-one, div-div-eq-div-mul}
use native.Mathlib.Numerals.{add-one}
use native.Mathlib.Omega.{arith}
use lib.Dec.{lit<}
use lib.Arith.{mod-mul}
use lib.ListN.{length, get_or, set, take, drop, take-append-drop}
use lib.Seq.{drop-cons, sets, get_or-set_other, take-suc, length-take-le}
use Rattle.base.specs.Le.{le_number, le_bytes, le_at}

-- every element is a byte
abbrev pub AllBytes : List ℕ → Type 0
AllBytes [] = Unit {0}
AllBytes (x ∷ xs) = (x < 256) × AllBytes xs

-- what a slice of bytes is known to be, as AllBytes
pub bytes_of : (s : List ℕ) → ((i : ℕ) → i < length s → get_or s i 0 < 256) → AllBytes s
bytes_of [] h = tt
bytes_of (x ∷ s) h = (h 0 (omega arith), bytes_of s (λ i k. h (suc i) (omega arith)))

pub bytes_append : (s t : List ℕ) → AllBytes s → AllBytes t → AllBytes (s ++ t)
bytes_append [] t h k = k
bytes_append (x ∷ s) t h k = (h.0, bytes_append s t h.1 k)

pub bytes_left : (s t : List ℕ) → AllBytes (s ++ t) → AllBytes s
bytes_left [] t h = tt
bytes_left (x ∷ s) t h = (h.0, bytes_left s t h.1)

pub bytes_right : (s t : List ℕ) → AllBytes (s ++ t) → AllBytes t
bytes_right [] t h = h
bytes_right (x ∷ s) t h = bytes_right s t h.1

pub bytes_drop : (n : ℕ) (s : List ℕ) → AllBytes s → AllBytes (drop n s)
bytes_drop n s h = bytes_right (take n s) (drop n s) (rw (take-append-drop n s) h)

pub length_le_bytes : (n v : ℕ) → length (le_bytes n v) ≡ n
unfolding le_bytes
length_le_bytes zero v = refl
length_le_bytes (suc n) v = ap suc (length_le_bytes n (v / 256))

pub bytes_le_bytes : (n v : ℕ) → AllBytes (le_bytes n v)
unfolding le_bytes
bytes_le_bytes zero v = tt
bytes_le_bytes (suc n) v = (omega arith, bytes_le_bytes n (v / 256))

-- a number that fits its bytes is read back
pub le_number_le_bytes : (n v : ℕ) → v < 256 ^ n → le_number (le_bytes n v) ≡ v
unfolding le_number le_bytes
le_number_le_bytes zero v h = omega arith
le_number_le_bytes (suc n) v h =
    let k : v < 256 ^ n * 256 = rw (pow-suc 256 n) at h in
    rw (le_number_le_bytes n (v / 256) (omega arith)) (omega arith)

-- bytes that were read are written back
pub le_bytes_le_number : (s : List ℕ) → AllBytes s → le_bytes (length s) (le_number s) ≡ s
unfolding le_number le_bytes
le_bytes_le_number [] h = refl
le_bytes_le_number (x ∷ s) h =
    let low : (x + 256 * le_number s) % 256 ≡ x = omega (arith, h.0) in
    let high : (x + 256 * le_number s) / 256 ≡ le_number s = omega (arith, h.0) in
    rw (low, high, le_bytes_le_number s h.1)

-- the number of n bytes is below 256 ^ n
pub le_number_lt : (s : List ℕ) → AllBytes s → le_number s < 256 ^ length s
unfolding le_number
le_number_lt [] h = lit< tt
le_number_lt (x ∷ s) h = rw (pow-suc 256 (length s)) (omega (arith, h.0, le_number_lt s h.1))

-- byte by byte, as code reads it
pub le_at_step : (n : ℕ) (s : List ℕ) (p : ℕ) → p < length s → le_at (suc n) s p ≡ get_or s p 0 + 256 * le_at n s (p + 1)
unfolding le_at le_number
le_at_step n s p h = rw (drop-cons s p 0 h, add-one)

pub le_at_none : (s : List ℕ) (p : ℕ) → le_at 0 s p ≡ 0
unfolding le_at le_number
le_at_none s p = refl

-- a number in two parts
pub le_at_add : (m n : ℕ) (s : List ℕ) (p : ℕ) → p + m ≤ length s → le_at (m + n) s p ≡ le_at m s p + 256 ^ m * le_at n s (p + m)
le_at_add zero n s p h = simp (zero-add, add-zero) (omega (arith, le_at_none s p))
le_at_add (suc m) n s p h =
    let e : p + 1 + m ≡ p + suc m = omega arith in
    let ih : le_at (m + n) s (p + 1) ≡ le_at m s (p + 1) + 256 ^ m * le_at n s (p + suc m) = rw e at (le_at_add m n s (p + 1) (omega arith)) in
    rw (suc-add, pow-suc, le_at_step (m + n) s p (omega arith), le_at_step m s p (omega arith)) (omega arith)

-- a number of one byte, and of two
pub le_at_byte : (s : List ℕ) (p : ℕ) → p < length s → le_at 1 s p ≡ get_or s p 0
le_at_byte s p h = le_at_step 0 s p h ∙ rest (le_at_none s (p + 1))
  where
    rest : le_at 0 s (p + 1) ≡ 0 → get_or s p 0 + 256 * le_at 0 s (p + 1) ≡ get_or s p 0
    rest e = omega arith

pub le_at_two : (s : List ℕ) (p : ℕ) → p + 2 ≤ length s → le_at 2 s p ≡ get_or s p 0 + 256 * get_or s (p + 1) 0
le_at_two s p h = le_at_step 1 s p (omega arith) ∙ rw (le_at_byte s (p + 1) (omega arith))

powers_pos : (n : ℕ) → 0 < 256 ^ n
powers_pos zero = lit< tt
powers_pos (suc n) = rw (pow-suc 256 n) (omega (arith, powers_pos n))

-- the bytes of a number in two parts
pub le_bytes_add : (m n v : ℕ) → le_bytes (m + n) v ≡ le_bytes m v ++ le_bytes n (v / 256 ^ m)
unfolding le_bytes
le_bytes_add zero n v = simp (zero-add, div-one)
le_bytes_add (suc m) n v = rw (suc-add, pow-succ' 256 m, ← div-div-eq-div-mul v 256 (256 ^ m)) (ap (λ (l : List ℕ). v % 256 ∷ l) (le_bytes_add m n (v / 256)))

-- n bytes are those of the number's remainder
pub le_bytes_mod : (n v : ℕ) → le_bytes n (v % 256 ^ n) ≡ le_bytes n v
unfolding le_bytes
le_bytes_mod zero v = refl
le_bytes_mod (suc n) v =
    let c : v % (256 ^ n * 256) ≡ (v / 256 % 256 ^ n) * 256 + v % 256 = mod-mul v (powers_pos n) (lit< tt) in
    let low : v % (256 ^ n * 256) % 256 ≡ v % 256 = omega arith in
    let high : v % (256 ^ n * 256) / 256 ≡ v / 256 % 256 ^ n = omega arith in
    rw (pow-suc 256 n, low, high, le_bytes_mod n (v / 256))

-- ---- a run of stores

pub sets_append : (vs ws l : List ℕ) (i : ℕ) → sets l i (vs ++ ws) ≡ sets (sets l i vs) (i + length vs) ws
sets_append [] ws l i = simp add-zero
sets_append (a ∷ vs) ws l i = sets_append vs ws (set l i a) (suc i) ∙ rw (suc-add, ← add-suc)

-- the next element of a list that is copied
pub sets_next : (l vs : List ℕ) (p i : ℕ) → i < length vs → set (sets l p (take i vs)) (p + i) (get_or vs i 0) ≡ sets l p (take (i + 1) vs)
sets_next l vs p i h = sym (rw (add-one, take-suc vs i 0 h, sets_append (take i vs) (get_or vs i 0 ∷ []) l p, length-take-le i vs (omega arith)))

-- two numbers written one after the other are the bytes of the whole
pub written_add : (m n v : ℕ) (l : List ℕ) (p : ℕ) → sets (sets l p (le_bytes m v)) (p + m) (le_bytes n (v / 256 ^ m)) ≡ sets l p (le_bytes (m + n) v)
written_add m n v l p = sym (rw (le_bytes_add m n v, sets_append (le_bytes m v) (le_bytes n (v / 256 ^ m)) l p, length_le_bytes m v))

pub get_d_sets_below : (vs l : List ℕ) (i j : ℕ) → j < i → get_or (sets l i vs) j 0 ≡ get_or l j 0
get_d_sets_below [] l i j h = refl
get_d_sets_below (a ∷ vs) l i j h = get_d_sets_below vs (set l i a) (suc i) j (omega arith) ∙ get_or-set_other l i j a 0 (λ e. omega arith)

pub get_d_sets_above : (vs l : List ℕ) (i j : ℕ) → i + length vs ≤ j → get_or (sets l i vs) j 0 ≡ get_or l j 0
get_d_sets_above [] l i j h = refl
get_d_sets_above (a ∷ vs) l i j h = get_d_sets_above vs (set l i a) (suc i) j (omega arith) ∙ get_or-set_other l i j a 0 (λ e. omega arith)
