-- Words as bytes: one word more, and there and back. Assumes nothing.
use mathlib.Core.Path.{◌≡◌, refl, sym, ap, ◌∙◌}
use mathlib.Core.List.{List, [], ◌∷◌, ◌++◌, map, flatten, append_assoc, append-nil}
use Prim.Native.Nat.{ℕ, zero, suc, ◌+◌, ◌*◌, ◌<◌, ◌≤◌}
use native.Mathlib.Numerals.{add-one}
use native.Mathlib.Omega.{arith}
use native.Mathlib.Nat.{zero-add, lt_of_lt_of_le, pow-le-pow_right}
use lib.Dec.{lit<}
use lib.ListN.{length, get_or, set, take, drop, length-append, length-drop, take-append-drop, drop_of_length-le}
use lib.Seq.{drop-drop, drop-length, take_all, take-suc, take_at, drop_at, length-take-le, sets}
use Rattle.base.specs.Le.{le_number, le_bytes, le_at}
use Rattle.base.proofs.Loops.{drop_next}
use Rattle.base.proofs.Le.{AllBytes, bytes_left, bytes_right, length_le_bytes, le_number_le_bytes, le_bytes_le_number, le_number_lt, sets_append}
use Rattle.words.specs.Words.{words_in, bytes_of}

pub length_words_in : (n : ℕ) (s : List ℕ) → length (words_in n s) ≡ n
unfolding words_in
length_words_in zero s = refl
length_words_in (suc n) s = ap suc (length_words_in n (drop 8 s))

-- the word after n words
le_at_after : (n : ℕ) (s : List ℕ) → le_at 8 (drop 8 s) (8 * n) ≡ le_at 8 s (8 * suc n)
unfolding le_at
le_at_after n s =
    let e : 8 + 8 * n ≡ 8 * suc n = omega arith in
    rw (drop-drop (8 * n) 8 s, e)

-- one word more
words_in_suc : (n : ℕ) (s : List ℕ) → words_in (suc n) s ≡ words_in n s ++ (le_at 8 s (8 * n) ∷ [])
unfolding words_in le_at
words_in_suc zero s = refl
words_in_suc (suc n) s = ap (λ (l : List ℕ). le_number (take 8 s) ∷ l) (words_in_suc n (drop 8 s) ∙ rw (le_at_after n s))

pub words_in_next : (n : ℕ) (s : List ℕ) → words_in (n + 1) s ≡ words_in n s ++ (le_at 8 s (8 * n) ∷ [])
words_in_next n s = rw add-one (words_in_suc n s)

-- a store of the next word
pub words_filled : (l : List ℕ) (n : ℕ) (s : List ℕ) → set (sets l 0 (words_in n s)) n (le_at 8 s (8 * n)) ≡ sets l 0 (words_in (n + 1) s)
words_filled l n s = sym (rw (words_in_next n s, sets_append (words_in n s) (le_at 8 s (8 * n) ∷ []) l 0, length_words_in n s, zero-add))

pub length_bytes_of : (ws : List ℕ) → length (bytes_of ws) ≡ 8 * length ws
unfolding bytes_of flatten
length_bytes_of [] = refl
length_bytes_of (w ∷ ws) = length-append (le_bytes 8 w) (flatten (map (le_bytes 8) ws)) ∙ rw (length_le_bytes 8 w) (omega (arith, length_bytes_of ws))

bytes_of_append : (ws vs : List ℕ) → bytes_of (ws ++ vs) ≡ bytes_of ws ++ bytes_of vs
unfolding bytes_of flatten
bytes_of_append [] vs = refl
bytes_of_append (w ∷ ws) vs = ap (λ (l : List ℕ). le_bytes 8 w ++ l) (bytes_of_append ws vs) ∙ sym (append_assoc (le_bytes 8 w) (bytes_of ws) (bytes_of vs))

bytes_of_one : (w : ℕ) → bytes_of (w ∷ []) ≡ le_bytes 8 w
unfolding bytes_of flatten
bytes_of_one w = append-nil (le_bytes 8 w)

bytes_of_next : (ws : List ℕ) (n : ℕ) → n < length ws → bytes_of (take (n + 1) ws) ≡ bytes_of (take n ws) ++ le_bytes 8 (get_or ws n 0)
bytes_of_next ws n h = rw (add-one, take-suc ws n 0 h, bytes_of_append (take n ws) (get_or ws n 0 ∷ []), bytes_of_one (get_or ws n 0))

-- a word written after n words
pub bytes_filled : (l ws : List ℕ) (n : ℕ) → n < length ws
    → sets (sets l 0 (bytes_of (take n ws))) (8 * n) (le_bytes 8 (get_or ws n 0)) ≡ sets l 0 (bytes_of (take (n + 1) ws))
bytes_filled l ws n h =
    let e : length (bytes_of (take n ws)) ≡ 8 * n = length_bytes_of (take n ws) ∙ rw (length-take-le n ws (omega arith)) in
    sym (rw (bytes_of_next ws n h, sets_append (bytes_of (take n ws)) (le_bytes 8 (get_or ws n 0)) l 0, e, zero-add))

-- there and back: words that fit 8 bytes
pub data Words : List ℕ → Type 0 where
  no_words : Words []
  with_word : {w : ℕ} {ws : List ℕ} → w < 18446744073709551616 → Words ws → Words (w ∷ ws)

pub words_in_bytes_of : (ws : List ℕ) → Words ws → words_in (length ws) (bytes_of ws) ≡ ws
unfolding words_in bytes_of flatten
words_in_bytes_of [] no_words = refl
words_in_bytes_of (w ∷ ws) (with_word h hs) =
    rw (take_at (le_bytes 8 w) (bytes_of ws) 8 (length_le_bytes 8 w), drop_at (le_bytes 8 w) (bytes_of ws) 8 (length_le_bytes 8 w), le_number_le_bytes 8 w h)
    (ap (λ (l : List ℕ). w ∷ l) (words_in_bytes_of ws hs))

-- and back again: whole words of bytes
pub bytes_of_words_in : (n : ℕ) (s : List ℕ) → AllBytes s → length s ≡ 8 * n → bytes_of (words_in n s) ≡ s
unfolding words_in bytes_of flatten
bytes_of_words_in zero [] h e = refl
bytes_of_words_in zero (x ∷ s) h e = absurd (omega arith)
bytes_of_words_in (suc n) s h e =
    let parts : take 8 s ++ drop 8 s ≡ s = take-append-drop 8 s in
    let both : AllBytes (take 8 s ++ drop 8 s) = rw parts h in
    let eight : length (take 8 s) ≡ 8 = length-take-le 8 s (omega arith) in
    let first : le_bytes 8 (le_number (take 8 s)) ≡ take 8 s = rw eight at (le_bytes_le_number (take 8 s) (bytes_left (take 8 s) (drop 8 s) both)) in
    rw (first, bytes_of_words_in n (drop 8 s) (bytes_right (take 8 s) (drop 8 s) both) (length-drop 8 s ∙ omega arith)) parts

-- ---- the last bytes, fewer than a word

pub last_next : (s : List ℕ) (p : ℕ) → p < length s → le_number (drop p s) ≡ get_or s p 0 + 256 * le_number (drop (p + 1) s)
unfolding le_number
last_next s p h = rw (drop_next s p h)

pub last_start : (s : List ℕ) → 0 ≡ le_number (drop (length s) s)
unfolding le_number
last_start s = rw (drop-length s)

pub last_none : (s : List ℕ) (p : ℕ) → length s ≤ p → le_at 8 s p ≡ 0
unfolding le_at le_number
last_none s p h = rw (drop_of_length-le s {i = p} h)

pub last_all : (s : List ℕ) (p : ℕ) → length s ≤ p + 8 → le_at 8 s p ≡ le_number (drop p s)
unfolding le_at
last_all s p h = rw (take_all 8 (drop p s) (simp length-drop (omega arith)))

-- up to seven bytes leave room for one more
pub last_fits : (s : List ℕ) (p : ℕ) → AllBytes s → length s ≤ p + 7 → le_number (drop p s) < 72057594037927936
last_fits s p h k =
    lt_of_lt_of_le (le_number_lt (drop p s) (bytes_right (take p s) (drop p s) (rw (take-append-drop p s) h)))
    (pow-le-pow_right {n = 256} (lit< tt) {i = length (drop p s)} {j = 7} (simp length-drop (omega arith)))

-- the word at an index
pub get_d_words_in : (n : ℕ) (s : List ℕ) (i : ℕ) → i < n → get_or (words_in n s) i 0 ≡ le_at 8 s (8 * i)
unfolding words_in le_at
get_d_words_in zero s i h = absurd (omega arith)
get_d_words_in (suc n) s zero h = refl
get_d_words_in (suc n) s (suc i) h = get_d_words_in n (drop 8 s) i (omega arith) ∙ le_at_after i s
