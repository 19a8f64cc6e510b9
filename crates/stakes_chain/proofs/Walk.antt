-- The walk along the chain: what was met so far, then what is left. Assumes nothing.
use mathlib.Core.Path.{◌≡◌, refl, ◌∙◌}
use mathlib.Core.Bool.{true}
use mathlib.Core.List.{List, [], ◌∷◌, ◌++◌, append-nil}
use mathlib.Core.Option.{Option, none, some}
use Prim.Native.Nat.{ℕ, zero, suc, ◌+◌, ◌-◌, ◌/◌, ◌≤◌, ◌<◌}
use native.Mathlib.Numerals.{add-one, sub-one}
use native.Mathlib.Omega.{arith}
use lib.ListN.{length, take, set}
use lib.Seq.{take-suc-set, append_snoc}
use borrow.Author.Tests.{eq-eqb, ne_eqb, lt-ltb, le-leb, lt-leb}
use Rattle.base.specs.Le.{Bytes}
use Rattle.base.proofs.Tests.{and_both}
use Rattle.stakes_chain.specs.Layout.{well_sized, record_count, place, first_index, next_index, in_file}
use Rattle.stakes_chain.specs.Chain.{linked, chain_from, chain_of}
use Rattle.stakes_chain.proofs.Chains.{long_enough, record-inside}

unfoldable pub joined : List ℕ → Option (List ℕ) → Option (List ℕ)
joined met none = none
joined met (some later) = some (met ++ later)

joined_none : (o : Option (List ℕ)) → joined [] o ≡ o
unfolding joined
joined_none none = refl
joined_none (some later) = refl

joined_linked : (met : List ℕ) (i : ℕ) (o : Option (List ℕ)) → joined met (linked i o) ≡ joined (met ++ (i ∷ [])) o
unfolding joined linked
joined_linked met i none = refl
joined_linked met i (some later) = rw (append_snoc met i later)

module _ (f : Bytes) (met : List ℕ) (left i : ℕ) where
  walk_end : i ≡ 0 → joined met (chain_from left f i) ≡ some met
  unfolding chain_from joined
  walk_end e = go left
    where
      go : (m : ℕ) → joined met (chain_from m f i) ≡ some met
      go zero = rw (eq-eqb i 0 e, append-nil)
      go (suc m) = rw (eq-eqb i 0 e, append-nil)

  walk_out : (i ≡ 0 → ⊥) → left ≡ 0 → joined met (chain_from left f i) ≡ none
  unfolding chain_from joined
  walk_out k e = rw (e, ne_eqb i 0 k)

  walk_past : (i ≡ 0 → ⊥) → record_count f < i → joined met (chain_from left f i) ≡ none
  unfolding chain_from joined in_file
  walk_past k h = go left
    where
      go : (m : ℕ) → joined met (chain_from m f i) ≡ none
      go zero = rw (ne_eqb i 0 k)
      go (suc m) = rw (ne_eqb i 0 k, lt-ltb 0 i (omega arith), lt-leb i (record_count f) h)

  walk_on : (i ≡ 0 → ⊥) → (left ≡ 0 → ⊥) → i ≤ record_count f → joined met (chain_from left f i) ≡ joined (met ++ (i ∷ []))
      (chain_from (left - 1) f (next_index f i))
  unfolding chain_from in_file
  walk_on k l h = go left l
    where
      go : (m : ℕ) → (m ≡ 0 → ⊥) → joined met (chain_from m f i) ≡ joined (met ++ (i ∷ [])) (chain_from (m - 1) f (next_index f i))
      go zero q = absurd (q refl)
      go (suc m) q = rw (ne_eqb i 0 k, lt-ltb 0 i (omega arith), le-leb i (record_count f) h, sub-one (suc m))
          (joined_linked met i (chain_from m f (next_index f i)))

-- how far the walk has come: n indexes stand in front, and i is the next
pub record Walked (f : Bytes) (count : ℕ) (is : List ℕ) (n i : ℕ) : Type 0 where
  pub sized : well_sized f ≡ true
  pub records : count ≡ record_count f
  pub few : n ≤ count
  pub most : count ≤ 2520
  pub onward : chain_of f ≡ joined (take n is) (chain_from (count - n) f i)

module _ (f : Bytes) (count : ℕ) (is : List ℕ) where
  pub walked_start : well_sized f ≡ true → count ≡ (length f - 2) / 26 → (i : ℕ) → i ≡ first_index f → Walked f count is 0 i
  unfolding record_count chain_of
  walked_start h e i q =
      let z : count - 0 ≡ count = omega arith in
      record {
        sized = h;
        records = e;
        few = omega arith;
        most = omega (arith, (long_enough f h).1);
        onward = rw (h, z, e, q, joined_none);
      }

  module _ (n i : ℕ) (w : Walked f count is n i) where
    pub walked_end : i ≡ 0 → chain_of f ≡ some (take n is)
    walked_end e = w.onward ∙ walk_end f (take n is) (count - n) i e

    pub walked_out : (i ≡ 0 → ⊥) → n ≡ count → chain_of f ≡ none
    walked_out k e = w.onward ∙ walk_out f (take n is) (count - n) i k (omega arith)

    pub walked_past : (i ≡ 0 → ⊥) → count < i → chain_of f ≡ none
    walked_past k h = w.onward ∙ walk_past f (take n is) (count - n) i k (omega (arith, w.records))

    pub walked_inside : (i ≡ 0 → ⊥) → i ≤ count → place i + 26 ≤ length f
    walked_inside k h = record-inside f i w.sized (unfold in_file in and_both _ _ (lt-ltb 0 i (omega arith))
        (le-leb i (record_count f) (omega (arith, w.records))))

    pub walked_on : (i ≡ 0 → ⊥) → (n ≡ count → ⊥) → i ≤ count → length is ≡ 2520 → (j : ℕ) → j ≡ next_index f i → Walked f count (set is n i) (n + 1) j
    walked_on k l h e j q =
        let z : (count - n) - 1 ≡ count - (n + 1) = omega arith in
        record {
          sized = w.sized;
          records = w.records;
          few = omega (arith, w.few);
          most = w.most;
          onward =
              w.onward
              ∙ walk_on f (take n is) (count - n) i k (λ (y : count - n ≡ 0). omega (arith, w.few)) (omega (arith, w.records))
              ∙ (rw (z, q, add-one n, take-suc-set is n i (omega (arith, w.few, w.most))));
        }
