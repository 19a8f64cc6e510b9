-- Tables of 128 words for each place, changed in one row. Assumes nothing.
use mathlib.Core.Path.{◌≡◌, refl, sym, ap, ap₂, ◌∙◌}
use mathlib.Core.Bool.{true, false}
use mathlib.Core.List.{List}
use Prim.Native.Nat.{ℕ, ◌+◌, ◌*◌, ◌≤◌, ◌<◌}
use native.Mathlib.Omega.{arith}
use native.Mathlib.Decide.{ℕ_discrete}
use lib.ListN.{length, get_or, set, length-set}
use lib.Seq.{get_or-set_same, get_or-set_other}
use Rattle.slip_write_rows.specs.Rows.{is_nearer, Beside, Row, Folded}

pub beside_start : (t : List ℕ) (k n : ℕ) → Beside t t k n
beside_start t k n = record { long = refl; below = λ x h. refl; above = λ x h. refl }

-- one change after the other
pub beside_more : (t₀ t₁ t₂ : List ℕ) (k n : ℕ) → Beside t₀ t₁ k n → Beside t₁ t₂ k n → Beside t₀ t₂ k n
beside_more t₀ t₁ t₂ k n p q =
    record { long = q.long ∙ p.long; below = λ x h. q.below x h ∙ p.below x h; above = λ x h. q.above x h ∙ p.above x h }

module _ (t₀ : List ℕ) (k : ℕ) (f : ℕ → ℕ) where
  row_start : Row t₀ t₀ k 0 f
  row_start = record { beside = beside_start t₀ k 0; are = λ a (h : a < 0). absurd (omega arith) }

  module _ (t : List ℕ) (n : ℕ) (r : Row t₀ t k n f) where
    -- a word that stays
    row_stays : get_or t₀ (128 * k + n) 0 ≡ f n → Row t₀ t k (n + 1) f
    row_stays e =
        record {
          beside = record { long = r.beside.long; below = r.beside.below; above = λ x (h : 128 * k + (n + 1) ≤ x). r.beside.above x (omega arith) };
          are = λ a (h : a < n + 1). go a h (ℕ_discrete a n);
        }
      where
        go : (a : ℕ) → a < n + 1 → Dec (a ≡ n) → get_or t (128 * k + a) 0 ≡ f a
        go a h (yes q) = rw q (r.beside.above (128 * k + n) (omega arith) ∙ e)
        go a h (no q) = r.are a (omega arith)

    -- a word that is written
    row_written : 128 * k + n < length t → (v : ℕ) → v ≡ f n → Row t₀ (set t (128 * k + n) v) k (n + 1) f
    row_written w v e =
        record {
          beside = record {
            long = length-set t (128 * k + n) v ∙ r.beside.long;
            below = λ x (h : x < 128 * k). get_or-set_other t (128 * k + n) x v 0 (λ (q : x ≡ 128 * k + n). omega arith) ∙ r.beside.below x h;
            above = λ x (h : 128 * k + (n + 1) ≤ x). get_or-set_other t (128 * k + n) x v 0 (λ (q : x ≡ 128 * k + n). omega arith) ∙ r.beside.above x
                (omega arith);
          };
          are = λ a (h : a < n + 1). go a h (ℕ_discrete a n);
        }
      where
        go : (a : ℕ) → a < n + 1 → Dec (a ≡ n) → get_or (set t (128 * k + n) v) (128 * k + a) 0 ≡ f a
        go a h (yes q) = rw q (get_or-set_same t (128 * k + n) v 0 w ∙ e)
        go a h (no q) = get_or-set_other t (128 * k + n) (128 * k + a) v 0 (λ (z : 128 * k + a ≡ 128 * k + n). q (omega arith)) ∙ r.are a (omega arith)

module _ (near₀ steps₀ : List ℕ) (k i j : ℕ) where
  pub folded_start : Folded near₀ steps₀ k i j near₀ steps₀ 0
  folded_start = record { words = row_start near₀ k _; firsts = row_start steps₀ k _ }

  module _ (near steps : List ℕ) (n : ℕ) (w : Folded near₀ steps₀ k i j near steps n) (low : i < k) (few : n < 128) where
    found_same : get_or near (128 * i + n) 0 ≡ get_or near₀ (128 * i + n) 0
    found_same = w.words.beside.below (128 * i + n) (omega arith)

    held_same : get_or near (128 * k + n) 0 ≡ get_or near₀ (128 * k + n) 0
    held_same = w.words.beside.above (128 * k + n) (omega arith)

    test_same : is_nearer (get_or near (128 * i + n) 0) (get_or near (128 * k + n) 0) ≡ is_nearer (get_or near₀ (128 * i + n) 0) (get_or near₀ (128 * k + n) 0)
    test_same = ap₂ is_nearer found_same held_same

    pub folded_no : is_nearer (get_or near (128 * i + n) 0) (get_or near (128 * k + n) 0) ≡ false → Folded near₀ steps₀ k i j near steps (n + 1)
    folded_no e =
        let f = sym test_same ∙ e in
        record { words = row_stays near₀ k _ near n w.words (rw f); firsts = row_stays steps₀ k _ steps n w.firsts (rw f) }

    pub folded_yes : is_nearer (get_or near (128 * i + n) 0) (get_or near (128 * k + n) 0) ≡ true → 128 * k + n < length near → 128 * k + n < length steps
        → Folded near₀ steps₀ k i j (set near (128 * k + n) (get_or near (128 * i + n) 0 + 1)) (set steps (128 * k + n) j) (n + 1)
    folded_yes e p q =
        let f = sym test_same ∙ e in
        record {
          words = row_written near₀ k _ near n w.words p (get_or near (128 * i + n) 0 + 1) (rw f (ap (λ (x : ℕ). x + 1) found_same));
          firsts = row_written steps₀ k _ steps n w.firsts q j (rw f);
        }
