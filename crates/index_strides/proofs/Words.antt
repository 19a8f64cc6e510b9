-- The runs of a part against the words of the index. Assumes nothing.
use mathlib.Core.Path.{◌≡◌, refl, sym, ap, subst, ◌∙◌}
use mathlib.Core.Bool.{true}
use mathlib.Core.List.{List, [], ◌∷◌, ◌++◌, map, flatten, append_assoc, append-nil}
use Prim.Native.Nat.{ℕ, zero, suc, ◌+◌, ◌*◌, ◌≤◌, ◌<◌}
use native.Mathlib.Omega.{arith}
use lib.Dec.{eqb}
use lib.ListN.{length, get_or, take, drop, length-drop, length-append, take-append-drop, get_or-append}
use lib.Seq.{drop-drop, take-length, take-add, take-append_seam, drop-append-le, get_or-drop}
use borrow.Author.Tests.{eq-eqb, eqb-true}
use Rattle.base.specs.Le.{le_bytes}
use Rattle.base.proofs.Le.{le_number_le_bytes}
use Rattle.base.proofs.Loops.{drop_next}
use Rattle.base.proofs.Tests.{and_left, and_right, and_both, not_both}
use Rattle.index_spec.specs.Runs.{Run}
use Rattle.index_spec.specs.Index.{digest_words, run_words, part_words}
use Rattle.index_spec.specs.Walk.{digest_of, run_from, runs_from}
use Rattle.index_spec.proofs.Reading.{length_run, part_length}
use Rattle.index_runs.specs.Values.{starts_with}

abbrev pub runs_words : List Run → List ℕ
runs_words xs = flatten (map run_words xs)

words_drop : (k : ℕ) (xs : List Run) (rest : List ℕ) → k ≤ length xs → drop (10 * k) (runs_words xs ++ rest) ≡ runs_words (drop k xs) ++ rest
unfolding flatten run_words digest_words
words_drop zero xs rest h = refl
words_drop (suc k) [] rest h = absurd (omega arith)
words_drop (suc k) (x ∷ xs) rest h = let e : 10 * suc k ≡ 10 + 10 * k = omega arith in rw e
    (sym (drop-drop (10 * k) 10 (runs_words (x ∷ xs) ++ rest)) ∙ words_drop k xs rest (omega arith))

pub words_append : (xs ys : List Run) → runs_words (xs ++ ys) ≡ runs_words xs ++ runs_words ys
unfolding flatten
words_append [] ys = refl
words_append (x ∷ xs) ys = ap (λ (ws : List ℕ). run_words x ++ ws) (words_append xs ys) ∙ sym (append_assoc (run_words x) (runs_words xs) (runs_words ys))

-- the runs after the first k
pub take_over : (k : ℕ) (xs ys zs : List Run) → drop k xs ≡ ys ++ zs → take (k + length ys) xs ≡ take k xs ++ ys
take_over k xs ys zs e =
    take-add k (length ys) xs ∙ ap (λ (ws : List Run). take k xs ++ ws) (ap (take (length ys)) e ∙ take-append_seam ys zs)

-- ---- beginning with words

starts_words : (vs ws : List ℕ) → starts_with vs ws ≡ true → ws ≡ vs ++ drop (length vs) ws
unfolding starts_with
starts_words [] ws h = refl
starts_words (v ∷ vs) [] h = absurd (not_both h refl)
starts_words (v ∷ vs) (w ∷ ws) h =
    let e = eqb-true w v (and_left (eqb w v) (starts_with vs ws) h) in
    let f = starts_words vs ws (and_right (eqb w v) (starts_with vs ws) h) in
    λ i. e i ∷ f i

words_starts : (vs rest : List ℕ) → starts_with vs (vs ++ rest) ≡ true
unfolding starts_with
words_starts [] rest = refl
words_starts (v ∷ vs) rest = and_both (eqb v v) (starts_with vs (vs ++ rest)) (eq-eqb v v refl) (words_starts vs rest)

-- ---- where a part does not stand

module _ (ix : List ℕ) (at : ℕ) (xs : List Run) (rest : List ℕ) (e : drop at ix ≡ part_words xs ++ rest) where
  pub part_inside : at < length ix
  unfolding part_words
  part_inside = omega (arith, length-drop at ix, ap length e, length-append (part_words xs) rest)

  pub part_count : get_or ix at 0 ≡ length xs
  unfolding part_words
  part_count = ap (λ (ws : List ℕ). get_or ws 0 0) (sym (drop_next ix at part_inside) ∙ e)

  pub part_body : drop (at + 1) ix ≡ runs_words xs ++ rest
  unfolding part_words
  part_body = sym (drop-drop 1 at ix) ∙ ap (drop 1) e

module _ (ix : List ℕ) (at : ℕ) (xs : List Run) (rest : List ℕ) (e : drop (at + 1) ix ≡ runs_words xs ++ rest) where
  part_from : (k : ℕ) → k ≤ length xs → drop (at + 1 + 10 * k) ix ≡ runs_words (drop k xs) ++ rest
  part_from k h = sym (drop-drop (10 * k) (at + 1) ix) ∙ ap (drop (10 * k)) e ∙ words_drop k xs rest h

  module _ (k : ℕ) (y : Run) (h : k < length xs) (f : drop k xs ≡ y ∷ drop (k + 1) xs) where
    run_from_lem : drop (at + 1 + 10 * k) ix ≡ run_words y ++ (runs_words (drop (k + 1) xs) ++ rest)
    unfolding flatten
    run_from_lem = part_from k (omega arith) ∙ ap (λ (zs : List Run). runs_words zs ++ rest) f ∙ append_assoc (run_words y) (runs_words (drop (k + 1) xs)) rest

    pub run_stands : starts_with (run_words y) (drop (at + 1 + 10 * k) ix) ≡ true
    run_stands = ap (starts_with (run_words y)) run_from_lem ∙ words_starts (run_words y) (runs_words (drop (k + 1) xs) ++ rest)

-- ---- where it stands

-- the first k runs stand there
unfoldable pub Stood : List ℕ → ℕ → ℕ → List Run → Type 0
Stood ix at k xs = drop (at + 1) ix ≡ runs_words (take k xs) ++ drop (at + 1 + 10 * k) ix

module _ (ix : List ℕ) (at : ℕ) (xs : List Run) where
  pub stood_start : Stood ix at 0 xs
  unfolding Stood flatten
  stood_start = let e : at + 1 + 10 * 0 ≡ at + 1 = omega arith in rw e

  -- some more
  pub stood_on : (k : ℕ) (ys : List Run) → Stood ix at k xs → drop k xs ≡ ys ++ drop (k + length ys) xs
      → drop (at + 1 + 10 * k) ix ≡ runs_words ys ++ drop (at + 1 + 10 * (k + length ys)) ix → Stood ix at (k + length ys) xs
  unfolding Stood
  stood_on k ys h f next =
      h
      ∙ ap (λ (ws : List ℕ). runs_words (take k xs) ++ ws) next
      ∙ sym (append_assoc (runs_words (take k xs)) (runs_words ys) (drop (at + 1 + 10 * (k + length ys)) ix))
      ∙ ap (λ (ws : List ℕ). ws ++ drop (at + 1 + 10 * (k + length ys)) ix)
      (sym (words_append (take k xs) ys) ∙ ap runs_words (sym (take_over k xs ys (drop (k + length ys) xs) f)))

  stood_end : Stood ix at (length xs) xs → drop (at + 1) ix ≡ runs_words xs ++ drop (at + 1 + 10 * length xs) ix
  unfolding Stood
  stood_end h = h ∙ ap (λ (zs : List Run). runs_words zs ++ drop (at + 1 + 10 * length xs) ix) (take-length xs)

  -- the whole part
  pub stood_part : at < length ix → get_or ix at 0 ≡ length xs → Stood ix at (length xs) xs → drop at ix ≡ part_words xs
      ++ drop (at + length (part_words xs)) ix
  unfolding part_words
  stood_part h c s =
      let e : at + 1 + 10 * length xs ≡ at + length (part_words xs) = omega (arith, part_length xs) in
      drop_next ix at h
      ∙ ap (λ (m : ℕ). m ∷ drop (at + 1) ix) c
      ∙ ap (λ (ws : List ℕ). length xs ∷ ws) (stood_end s ∙ ap (λ (m : ℕ). runs_words xs ++ drop m ix) e)

-- ---- a run where it stands

-- ten words, through their run
run_words_lem : (ws : List ℕ) → ((i : ℕ) → get_or ws i 0 < 18446744073709551616) → (rest : List ℕ) → run_words (run_from ws) ++ rest ≡ get_or ws 0 0
    ∷ get_or ws 1 0 ∷
    get_or ws 2 0 ∷ get_or ws 3 0 ∷ get_or ws 4 0 ∷ get_or ws 5 0 ∷ get_or ws 6 0 ∷ get_or ws 7 0 ∷ get_or ws 8 0 ∷ get_or ws 9 0 ∷ rest
unfolding run_words run_from digest_words digest_of le_bytes
run_words_lem ws h rest =
    let a = le_number_le_bytes 8 (get_or ws 2 0) (h 2) in
    let b = le_number_le_bytes 8 (get_or ws 3 0) (h 3) in
    let c = le_number_le_bytes 8 (get_or ws 4 0) (h 4) in
    let d = le_number_le_bytes 8 (get_or ws 5 0) (h 5) in
    λ i. get_or ws 0 0 ∷ get_or ws 1 0 ∷ a i ∷ b i ∷ c i ∷ d i ∷ get_or ws 6 0 ∷ get_or ws 7 0 ∷ get_or ws 8 0 ∷ get_or ws 9 0 ∷ rest

ten : (ws : List ℕ) → 10 ≤ length ws
    → ws ≡ get_or ws 0 0 ∷ get_or ws 1 0 ∷ get_or ws 2 0 ∷ get_or ws 3 0 ∷ get_or ws 4 0 ∷ get_or ws 5 0 ∷ get_or ws 6 0 ∷ get_or ws 7 0 ∷ get_or ws 8 0
    ∷ get_or ws 9 0 ∷ drop
    10 ws
ten [] m = absurd (omega arith)
ten (a ∷ []) m = absurd (omega arith)
ten (a ∷ b ∷ []) m = absurd (omega arith)
ten (a ∷ b ∷ c ∷ []) m = absurd (omega arith)
ten (a ∷ b ∷ c ∷ d ∷ []) m = absurd (omega arith)
ten (a ∷ b ∷ c ∷ d ∷ e ∷ []) m = absurd (omega arith)
ten (a ∷ b ∷ c ∷ d ∷ e ∷ f ∷ []) m = absurd (omega arith)
ten (a ∷ b ∷ c ∷ d ∷ e ∷ f ∷ g ∷ []) m = absurd (omega arith)
ten (a ∷ b ∷ c ∷ d ∷ e ∷ f ∷ g ∷ h ∷ []) m = absurd (omega arith)
ten (a ∷ b ∷ c ∷ d ∷ e ∷ f ∷ g ∷ h ∷ i ∷ []) m = absurd (omega arith)
ten (a ∷ b ∷ c ∷ d ∷ e ∷ f ∷ g ∷ h ∷ i ∷ j ∷ rest) m = refl

-- the words of the run that stands there
pub run_here : (ix : List ℕ) (pos : ℕ) → ((i : ℕ) → get_or ix i 0 < 18446744073709551616) → pos + 10 ≤ length ix → starts_with
    (run_words (run_from (drop pos ix))) (drop pos ix) ≡ true
run_here ix pos h m =
    ap (starts_with (run_words (run_from (drop pos ix))))
    (ten (drop pos ix) (omega (arith, length-drop pos ix))
    ∙ sym (run_words_lem (drop pos ix) (λ i. subst (λ (w : ℕ). w < 18446744073709551616) (sym (get_or-drop pos ix i 0)) (h (pos + i))) (drop 10 (drop pos ix))))
    ∙ words_starts (run_words (run_from (drop pos ix))) (drop 10 (drop pos ix))

-- ---- runs where they stand

-- the words of the runs that are read from words
pub runs_words_lem : (m : ℕ) (ws : List ℕ) → ((i : ℕ) → get_or ws i 0 < 18446744073709551616) → 10 * m ≤ length ws → runs_words (runs_from m ws)
    ≡ take (10 * m) ws
unfolding runs_from flatten
runs_words_lem zero ws h k = refl
runs_words_lem (suc m) ws h k =
    let e : 10 * suc m ≡ 10 + 10 * m = omega arith in
    let first : run_words (run_from ws) ≡ take 10 ws =
    sym (append-nil (run_words (run_from ws))) ∙ run_words_lem ws h [] ∙ sym (ap (take 10) (ten ws (omega arith))) in
    let rest = runs_words_lem m (drop 10 ws) (λ i. subst (λ (w : ℕ). w < 18446744073709551616) (sym (get_or-drop 10 ws i 0)) (h (10 + i)))
    (omega (arith, length-drop 10 ws)) in
    rw e ((λ i. first i ++ rest i) ∙ sym (take-add 10 (10 * m) ws))

-- ten words are enough for a run
run_more : (ws more : List ℕ) → 10 ≤ length ws → run_from (ws ++ more) ≡ run_from ws
unfolding run_from
run_more ws more h =
    rw (
      get_or-append ws more 0 0 (omega arith),
      get_or-append ws more 0 1 (omega arith),
      get_or-append ws more 0 2 (omega arith),
      get_or-append ws more 0 3 (omega arith),
      get_or-append ws more 0 4 (omega arith),
      get_or-append ws more 0 5 (omega arith),
      get_or-append ws more 0 6 (omega arith),
      get_or-append ws more 0 7 (omega arith),
      get_or-append ws more 0 8 (omega arith),
      get_or-append ws more 0 9 (omega arith),
    )

-- words after them change no runs
pub runs_more : (n : ℕ) (ws more : List ℕ) → 10 * n ≤ length ws → runs_from n (ws ++ more) ≡ runs_from n ws
unfolding runs_from
runs_more zero ws more h = refl
runs_more (suc n) ws more h =
    rw (run_more ws more (omega arith), drop-append-le 10 ws more (omega arith), runs_more n (drop 10 ws) more (omega (arith, length-drop 10 ws)))

-- runs in the first words
pub runs_take : (n pos used : ℕ) (ix : List ℕ) → pos + 10 * n ≤ length (take used ix) → runs_from n (drop pos ix) ≡ runs_from n (drop pos (take used ix))
runs_take n pos used ix h =
    ap (λ (ws : List ℕ). runs_from n (drop pos ws)) (sym (take-append-drop used ix))
    ∙ ap (runs_from n) (drop-append-le pos (take used ix) (drop used ix) (omega arith))
    ∙ runs_more n (drop pos (take used ix)) (drop used ix) (omega (arith, length-drop pos (take used ix)))

-- a run and those that are read after it
pub row_stands : (ix : List ℕ) (pos : ℕ) (x : Run) (m : ℕ) → ((i : ℕ) → get_or ix i 0 < 18446744073709551616) → starts_with (run_words x) (drop pos ix) ≡ true
    → pos + 10 * (1 + m) ≤ length ix
    → drop pos ix ≡ runs_words (x ∷ runs_from m (drop (pos + 10) ix)) ++ drop (pos + 10 * (1 + m)) ix
unfolding flatten
row_stands ix pos x m h s k =
    let ws = drop (pos + 10) ix in
    let e : pos + 10 + 10 * m ≡ pos + 10 * (1 + m) = omega arith in
    let rest : ws ≡ runs_words (runs_from m ws) ++ drop (pos + 10 * (1 + m)) ix =
    sym (take-append-drop (10 * m) ws)
    ∙ ap (λ (vs : List ℕ). vs ++ drop (10 * m) ws)
    (sym (runs_words_lem m ws (λ i. subst (λ (w : ℕ). w < 18446744073709551616) (sym (get_or-drop (pos + 10) ix i 0)) (h (pos + 10 + i)))
    (omega (arith, length-drop (pos + 10) ix))))
    ∙ ap (λ (vs : List ℕ). runs_words (runs_from m ws) ++ vs) (drop-drop (10 * m) (pos + 10) ix ∙ ap (λ (i : ℕ). drop i ix) e) in
    starts_words (run_words x) (drop pos ix) s
    ∙ ap (λ (n : ℕ). run_words x ++ drop n (drop pos ix)) (length_run x)
    ∙ ap (λ (vs : List ℕ). run_words x ++ vs) (drop-drop 10 pos ix ∙ rest)
    ∙ sym (append_assoc (run_words x) (runs_words (runs_from m ws)) (drop (pos + 10 * (1 + m)) ix))
