-- The sets of places as they are written. Assumes nothing.
use mathlib.Core.Path.{◌≡◌, refl, sym, ap, subst, ◌∙◌}
use mathlib.Core.Logic.{◌⊎◌, inl, inr}
use mathlib.Core.Bool.{true, ◌||◌, or-false}
use mathlib.Core.List.{List}
use Prim.Native.Nat.{ℕ, ◌+◌, ◌*◌, ◌/◌, ◌%◌, ◌^◌, ◌≤◌, ◌<◌}
use native.Mathlib.Omega.{arith}
use native.Mathlib.Decide.{ℕ_discrete}
use lib.Dec.{eqb}
use lib.Bits.{bit_or}
use lib.ListN.{length, get_or, set, length-set}
use lib.Seq.{get_or-set_same, get_or-set_other}
use borrow.Author.Tests.{eq-eqb, ne_eqb, eqb-true}
use Rattle.base.specs.Le.{Bytes}
use Rattle.base.proofs.Tests.{not_both, or_cases, or_left, or_right}
use Rattle.committee_set.specs.AuthoritySet.{bit}
use Rattle.committee_set.proofs.Bits.{bit_or_lem, bit_pow, bit_zero}
use Rattle.record_spec.specs.Record.{no_reference}
use Rattle.final_block_votes.specs.Walk.{block_at_place}
use Rattle.list_includes_spec.specs.Places.{IsPlace}
use Rattle.list_include_sets.specs.Sets.{has, with_place, Row, NotedRow, SameBefore, Included}

-- ---- one place more

module _ (sets : List ℕ) (k p : ℕ) (low : p < 1024) (room : 17 * k + 16 < length sets) where
  pub with_long : length (with_place sets k p) ≡ length sets
  unfolding with_place
  with_long = length-set sets _ _

  pub with_other : (x : ℕ) → (x ≡ 17 * k + p / 64 → ⊥) → get_or (with_place sets k p) x 0 ≡ get_or sets x 0
  unfolding with_place
  with_other x h = get_or-set_other sets (17 * k + p / 64) x _ 0 h

  pub with_has : (q : ℕ) → has (with_place sets k p) k q ≡ has sets k q || eqb q p
  unfolding has with_place
  with_has q = go (ℕ_discrete (q / 64) (p / 64))
    where
      here_bit : q / 64 ≡ p / 64 → eqb (q % 64) (p % 64) ≡ eqb q p
      here_bit e = at (ℕ_discrete q p)
        where
          at : Dec (q ≡ p) → eqb (q % 64) (p % 64) ≡ eqb q p
          at (yes f) = eq-eqb (q % 64) (p % 64) (ap (λ (x : ℕ). x % 64) f) ∙ sym (eq-eqb q p f)
          at (no f) = ne_eqb (q % 64) (p % 64) (λ (z : q % 64 ≡ p % 64). f (omega arith)) ∙ sym (ne_eqb q p f)

      go : Dec (q / 64 ≡ p / 64) → bit (get_or (set sets (17 * k + p / 64) (bit_or (get_or sets (17 * k + p / 64) 0) (2 ^ (p % 64)))) (17 * k + q / 64) 0)
          (q % 64)
          ≡ bit (get_or sets (17 * k + q / 64) 0) (q % 64) || eqb q p
      go (yes e) =
          rw (
            e,
            get_or-set_same sets (17 * k + p / 64) (bit_or (get_or sets (17 * k + p / 64) 0) (2 ^ (p % 64))) 0 (omega arith),
            bit_or_lem
                (get_or sets (17 * k + p / 64) 0) (2 ^ (p % 64)) (q % 64),
            bit_pow (p % 64) (q % 64),
            here_bit e,
          )
      go (no e) =
          rw (
            get_or-set_other sets (17 * k + p / 64) (17 * k + q / 64) (bit_or (get_or sets (17 * k + p / 64) 0) (2 ^ (p % 64))) 0
                (λ (z : 17 * k + q / 64 ≡ 17 * k + p / 64). e (omega arith)),
            ne_eqb q p (λ (z : q ≡ p). e (ap (λ (x : ℕ). x / 64) z)),
          )
          (sym (or-false _))

-- ---- the set of a block

module _ (s : Bytes) (order : List ℕ) (k : ℕ) where
  pub row_start : (sets : List ℕ) → ((x : ℕ) → 17 * k ≤ x → get_or sets x 0 ≡ 0) → Row s order sets k 0
  unfolding has
  row_start sets zeros =
      record {
        sound = λ p l h. absurd (not_both h (rw (zeros (17 * k + p / 64) (omega arith)) (bit_zero (p % 64))));
        whole = λ j h. absurd (omega arith);
      }

  pub row_more : (sets : List ℕ) (n p : ℕ) → Row s order sets k n → p < 1024 → 17 * k + 16 < length sets → IsPlace s order p
      (get_or (block_at_place s order k).includes n no_reference)
      → Row s order (with_place sets k p) k (n + 1)
  row_more sets n p w low room x = record { sound = sound_too; whole = whole_too }
    where
      grown : (q : ℕ) → has (with_place sets k p) k q ≡ has sets k q || eqb q p
      grown q = with_has sets k p low room q

      sound_too : (q : ℕ) → q < 1024 → has (with_place sets k p) k q ≡ true → (j : ℕ) ×
          ((j < n + 1) × IsPlace s order q (get_or (block_at_place s order k).includes j no_reference))
      sound_too q l h = go (or_cases (has sets k q) (eqb q p) (sym (grown q) ∙ h))
        where
          go : (has sets k q ≡ true) ⊎ (eqb q p ≡ true) → (j : ℕ)
              × ((j < n + 1) × IsPlace s order q (get_or (block_at_place s order k).includes j no_reference))
          go (inl e) = let y = w.sound q l e in (y.0, (omega (arith, y.1.0), y.1.1))
          go (inr e) = (n, (omega arith, rw (eqb-true q p e) x))

      whole_too : (j : ℕ) → j < n + 1 → (q : ℕ) × ((q < 1024) × ((has (with_place sets k p) k q ≡ true) × IsPlace s order q
          (get_or (block_at_place s order k).includes j no_reference)))
      whole_too j h = go (ℕ_discrete j n)
        where
          go : Dec (j ≡ n) → (q : ℕ) × ((q < 1024) × ((has (with_place sets k p) k q ≡ true) × IsPlace s order q
              (get_or (block_at_place s order k).includes j no_reference)))
          go (yes e) = (p, (low, (grown p ∙ or_right (has sets k p) (eqb p p) (eq-eqb p p refl), rw e x)))
          go (no e) = let y = w.whole j (omega arith) in (
            y.0,
            (
              y.1.0,
              (grown y.0 ∙ or_left (has sets k y.0) (eqb y.0 p) y.1.1.0, y.1.1.1),
            ),
          )

-- the set of a block depends on its 16 words alone
pub has_same : (as' bs : List ℕ) (j k p : ℕ) → p < 1024 → ((i : ℕ) → i < 16 → get_or as' (17 * j + i) 0 ≡ get_or bs (17 * k + i) 0) → has as' j p ≡ has bs k p
unfolding has
has_same as' bs j k p h f = rw (f (p / 64) (omega arith))

pub row_kept : (s : Bytes) (order as' bs : List ℕ) (k n : ℕ) → ((i : ℕ) → i < 16 → get_or bs (17 * k + i) 0 ≡ get_or as' (17 * k + i) 0) → Row s order as' k n →
    Row s order bs k n
row_kept s order as' bs k n f w =
    record {
      sound = λ p l h. w.sound p l (sym (has_same bs as' k k p l f) ∙ h);
      whole = λ j h. let y = w.whole j h in (y.0, (y.1.0, (has_same bs as' k k y.0 y.1.0 f ∙ y.1.1.0, y.1.1.1)));
    }

module _ (s : Bytes) (order : List ℕ) (k : ℕ) (sets₀ : List ℕ) where
  pub noted_start : ((x : ℕ) → 17 * k ≤ x → get_or sets₀ x 0 ≡ 0) → NotedRow s order k 0 sets₀ sets₀
  noted_start zeros = record { long = refl; kept = λ x h. refl; past = λ x h. refl; row = row_start s order k sets₀ zeros }

  pub noted_more : (sets : List ℕ) (n p : ℕ) → NotedRow s order k n sets₀ sets → p < 1024 → 17 * k + 16 < length sets → IsPlace s order p
      (get_or (block_at_place s order k).includes n no_reference)
      → NotedRow s order k (n + 1) sets₀ (with_place sets k p)
  noted_more sets n p w low room x =
      record {
        long = with_long sets k p low room ∙ w.long;
        kept = λ y h. with_other sets k p low room y (λ (e : y ≡ 17 * k + p / 64). omega arith) ∙ w.kept y h;
        past = λ y h. with_other sets k p low room y (λ (e : y ≡ 17 * k + p / 64). omega arith) ∙ w.past y h;
        row = row_more s order k sets n p w.row low room x;
      }

-- ---- the sets of all blocks

pub record Noting (s : Bytes) (order sets₀ sets : List ℕ) (k : ℕ) : Type 0 where
  pub inside : k ≤ length order
  pub long : length sets ≡ length sets₀
  pub written : Included s order sets k
  pub clear : (x : ℕ) → 17 * k ≤ x → get_or sets x 0 ≡ 0

module _ (s : Bytes) (order : List ℕ) where
  pub noting_start : (sets : List ℕ) → ((x : ℕ) → get_or sets x 0 ≡ 0) → Noting s order sets sets 0
  noting_start sets zeros =
      record {
        inside = omega arith;
        long = refl;
        written = record { room = omega arith; rows = λ k h. absurd (omega arith); same = λ k h. absurd (omega arith) };
        clear = λ x h. zeros x;
      }

  same_kept : (as' bs : List ℕ) (k : ℕ) → ((x : ℕ) → x < 17 * k + 16 → get_or bs x 0 ≡ get_or as' x 0) → SameBefore as' k → SameBefore bs k
  unfolding SameBefore
  same_kept as' bs k f w = (w.0, (w.1.0, λ i h. f (17 * k + i) (omega arith) ∙ w.1.1 i h ∙ sym (f (17 * w.0 + i) (omega (arith, w.1.0)))))

  pub noting_more : (sets₀ sets ss : List ℕ) (k : ℕ) → Noting s order sets₀ sets k → k < length order → 17 * length order ≤ length sets₀ → NotedRow s order k
      (length (block_at_place s order k).includes) sets ss → (r : ℕ) → (r ≡ 1 → SameBefore ss k)
      → Noting s order sets₀ (set ss (17 * k + 16) r) (k + 1)
  noting_more sets₀ sets ss k w h large x r same =
      record {
        inside = omega arith;
        long = length-set ss (17 * k + 16) r ∙ x.long ∙ w.long;
        written = record { room = omega (arith, length-set ss (17 * k + 16) r, x.long, w.long); rows = rows_too; same = same_too };
        clear = λ y l. other y (λ (e : y ≡ 17 * k + 16). omega arith) ∙ x.past y (omega arith) ∙ w.clear y (omega arith);
      }
    where
      other : (y : ℕ) → (y ≡ 17 * k + 16 → ⊥) → get_or (set ss (17 * k + 16) r) y 0 ≡ get_or ss y 0
      other y n = get_or-set_other ss (17 * k + 16) y r 0 n

      before : (y : ℕ) → y < 17 * k → get_or (set ss (17 * k + 16) r) y 0 ≡ get_or sets y 0
      before y l = other y (λ (e : y ≡ 17 * k + 16). omega arith) ∙ x.kept y l

      rows_too : (j : ℕ) → j < k + 1 → Row s order (set ss (17 * k + 16) r) j (length (block_at_place s order j).includes)
      rows_too j l = go (ℕ_discrete j k)
        where
          go : Dec (j ≡ k) → Row s order (set ss (17 * k + 16) r) j (length (block_at_place s order j).includes)
          go (yes e) =
              subst (λ (i : ℕ). Row s order (set ss (17 * k + 16) r) i (length (block_at_place s order i).includes)) (sym e)
              (row_kept s order ss (set ss (17 * k + 16) r) k _ (λ i m. other (17 * k + i) (λ (q : 17 * k + i ≡ 17 * k + 16). omega arith)) x.row)
          go (no e) = row_kept s order sets (set ss (17 * k + 16) r) j _ (λ i m. before (17 * j + i) (omega arith)) (w.written.rows j (omega arith))

      same_too : (j : ℕ) → j < k + 1 → get_or (set ss (17 * k + 16) r) (17 * j + 16) 0 ≡ 1 → SameBefore (set ss (17 * k + 16) r) j
      same_too j l = go (ℕ_discrete j k)
        where
          go : Dec (j ≡ k) → get_or (set ss (17 * k + 16) r) (17 * j + 16) 0 ≡ 1 → SameBefore (set ss (17 * k + 16) r) j
          go (yes e) q =
              let room : 17 * k + 16 < length ss = omega (arith, x.long, w.long) in
              let one : r ≡ 1 = sym (get_or-set_same ss (17 * k + 16) r 0 room) ∙ ap (λ (i : ℕ). get_or (set ss (17 * k + 16) r) (17 * i + 16) 0) (sym e) ∙ q in
              subst (SameBefore (set ss (17 * k + 16) r)) (sym e) (same_kept ss (set ss (17 * k + 16) r) k
              (λ y m. other y (λ (z : y ≡ 17 * k + 16). omega arith)) (same one))
          go (no e) q =
              same_kept sets (set ss (17 * k + 16) r) j (λ y m. before y (omega arith))
              (w.written.same j (omega arith) (sym (before (17 * j + 16) (omega arith)) ∙ q))
