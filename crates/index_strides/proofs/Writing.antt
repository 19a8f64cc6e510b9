-- The runs of a part written one after the other behind the used words. Assumes nothing.
use mathlib.Core.Path.{◌≡◌, refl, sym, ap, subst, ◌∙◌}
use mathlib.Core.List.{List, [], ◌∷◌, ◌++◌, flatten}
use Prim.Native.Nat.{ℕ, suc, ◌+◌, ◌*◌, ◌≤◌, ◌<◌}
use native.Mathlib.Omega.{arith}
use native.Mathlib.Numerals.{add-one}
use lib.ListN.{length, get_or, take, drop, set, length-drop}
use lib.Seq.{sets, take-set-le, length-take-le, take-length, take-add, drop_at, get_or-drop, length-sets}
use Rattle.base.proofs.Le.{sets_append}
use Rattle.index_spec.specs.Runs.{Run}
use Rattle.index_spec.specs.Index.{run_words, part_words}
use Rattle.index_spec.specs.Walk.{runs_from}
use Rattle.index_spec.proofs.Reading.{length_run, runs_length}
use Rattle.index_strides.proofs.Words.{runs_words, words_append, take_over, runs_words_lem}

-- words written past the first n leave these
pub take_sets : (n : ℕ) (l vs : List ℕ) (i : ℕ) → n ≤ i → take n (sets l i vs) ≡ take n l
take_sets n l [] i h = refl
take_sets n l (v ∷ vs) i h = take_sets n (set l i v) vs (suc i) (omega arith) ∙ take-set-le n l i v h

-- the first k runs were written
unfoldable pub Written : List ℕ → List ℕ → ℕ → ℕ → List Run → Type 0
Written l₀ l p k xs = l ≡ sets l₀ p (runs_words (take k xs))

module _ (l₀ : List ℕ) (p : ℕ) (xs : List Run) where
  pub written_start : Written l₀ l₀ p 0 xs
  unfolding Written flatten
  written_start = refl

  -- some more
  pub written_over : (l : List ℕ) (k : ℕ) (ys : List Run) → k ≤ length xs → Written l₀ l p k xs → drop k xs ≡ ys ++ drop (k + length ys) xs → Written l₀
      (sets l (p + 10 * k) (runs_words ys)) p (k + length ys) xs
  unfolding Written
  written_over l k ys h w e =
      ap (λ (m : List ℕ). sets m (p + 10 * k) (runs_words ys)) w
      ∙ ap (λ (n : ℕ). sets (sets l₀ p (runs_words (take k xs))) (p + n) (runs_words ys))
      (sym (runs_length (take k xs) ∙ ap (λ (n : ℕ). 10 * n) (length-take-le k xs h)))
      ∙ sym (sets_append (runs_words (take k xs)) (runs_words ys) l₀ p)
      ∙ ap (sets l₀ p) (sym (words_append (take k xs) ys) ∙ ap runs_words (sym (take_over k xs ys (drop (k + length ys) xs) e)))

  pub written_end : (l : List ℕ) (k : ℕ) → length xs ≡ k → Written l₀ l p k xs → l ≡ sets l₀ p (runs_words xs)
  unfolding Written
  written_end l k e w = w ∙ ap (λ (ys : List Run). sets l₀ p (runs_words ys)) (ap (λ (n : ℕ). take n xs) (sym e) ∙ take-length xs)

-- the whole part
pub part_written : (l₀ l : List ℕ) (used k : ℕ) (xs : List Run) → length xs ≡ k → Written (set l₀ used k) l (used + 1) k xs → l ≡ sets l₀ used (part_words xs)
unfolding part_words
part_written l₀ l used k xs e w =
    written_end (set l₀ used k) (used + 1) xs l k e w
    ∙ ap (λ (n : ℕ). sets (set l₀ used n) (used + 1) (runs_words xs)) (sym e)
    ∙ ap (λ (n : ℕ). sets (set l₀ used (length xs)) n (runs_words xs)) (add-one used)

-- ---- runs copied to a position past them

part_take : (p m : ℕ) (l : List ℕ) → p ≤ length l → drop p (take (p + m) l) ≡ take m (drop p l)
part_take p m l h = ap (drop p) (take-add p m l) ∙ drop_at (take p l) (take m (drop p l)) p (length-take-le p l h)

-- words written past others leave these
part_sets : (p m : ℕ) (l vs : List ℕ) (i : ℕ) → p + m ≤ i → p ≤ length l → take m (drop p (sets l i vs)) ≡ take m (drop p l)
part_sets p m l vs i h k =
    sym (part_take p m (sets l i vs) (omega (arith, length-sets l i vs))) ∙ ap (drop p) (take_sets (p + m) l vs i h) ∙ part_take p m l k

pub copied : (l : List ℕ) (at pos m : ℕ) (y : Run) → ((i : ℕ) → get_or l i 0 < 18446744073709551616) → pos + 10 * m ≤ at → at ≤ length l
    → sets (sets l at (run_words y)) (at + 10) (take (10 * m) (drop pos (sets l at (run_words y)))) ≡ sets l at (runs_words (y ∷ runs_from m (drop pos l)))
unfolding flatten
copied l at pos m y h k j =
    let same : take (10 * m) (drop pos (sets l at (run_words y))) ≡ runs_words (runs_from m (drop pos l)) =
    part_sets pos (10 * m) l (run_words y) at k (omega arith) ∙ sym
    (runs_words_lem m (drop pos l) (λ i. subst (λ (w : ℕ). w < 18446744073709551616) (sym (get_or-drop pos l i 0)) (h (pos + i))) (omega (
      arith,
      length-drop pos
          l,
    ))) in
    ap (sets (sets l at (run_words y)) (at + 10)) same
    ∙ ap (λ (n : ℕ). sets (sets l at (run_words y)) (at + n) (runs_words (runs_from m (drop pos l)))) (sym (length_run y))
    ∙ sym (sets_append (run_words y) (runs_words (runs_from m (drop pos l))) l at)
