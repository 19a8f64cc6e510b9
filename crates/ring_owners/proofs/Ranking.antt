-- Owners in rank: the same owners, each once, ordered by stake and number. Assumes nothing.
use mathlib.Core.Path.{◌≡◌, refl, sym, ◌∙◌}
use mathlib.Core.Logic.{◌⊎◌, inl, inr}
use mathlib.Core.Bool.{Bool, true, false}
use mathlib.Core.List.{List, [], ◌∷◌}
use Prim.Native.Nat.{ℕ, ◌≤◌}
use native.Mathlib.Omega.{arith}
use lib.ListN.{length}
use Rattle.base.specs.Lists.{pick, keep, ◌∈◌, there, Once, empty, also}
use Rattle.base.proofs.Members.{in_cases, in_first}
use Rattle.base.proofs.Lists.{Every, none_of, and, Pairs, no_pairs, with_later, every}
use Rattle.committee.specs.Committee.{AuthorityIndex, Committee}
use Rattle.ring_owners.specs.Ranked.{ahead, placed, ranked}
use Rattle.ring_owners.proofs.Totals.{total, total_ones}

-- a weight that goes with the rank
pub record Fits (c : Committee) (f : AuthorityIndex → ℕ) : Type 0 where
  pub yes_ahead : (a b : AuthorityIndex) → ahead c a b ≡ true → f b ≤ f a
  pub not_ahead : (a b : AuthorityIndex) → ahead c a b ≡ false → f a ≤ f b

placed_every : {P : AuthorityIndex → Type 0} (c : Committee) (a : AuthorityIndex) (xs : List AuthorityIndex) → P a → Every P xs → Every P (placed c a xs)
unfolding placed
placed_every c a [] h none_of = and h none_of
placed_every {P} c a (x ∷ xs) h (and k ks) = go (ahead c a x) (placed_every c a xs h ks)
  where
    go : (t : Bool) → Every P (placed c a xs) → Every P (pick t (a ∷ x ∷ xs) (x ∷ placed c a xs))
    go true r = and h (and k ks)
    go false r = and k r

module _ (c : Committee) (f : AuthorityIndex → ℕ) (w : Fits c f) where
  placed_falls : (a : AuthorityIndex) (xs : List AuthorityIndex) → Pairs (λ x y. f y ≤ f x) xs → Pairs (λ x y. f y ≤ f x) (placed c a xs)
  unfolding placed
  placed_falls a [] no_pairs = with_later none_of no_pairs
  placed_falls a (x ∷ xs) (with_later h hs) = go (ahead c a x) refl (placed_falls a xs hs)
    where
      go : (t : Bool) → ahead c a x ≡ t → Pairs (λ x y. f y ≤ f x) (placed c a xs) → Pairs (λ x y. f y ≤ f x) (pick t (a ∷ x ∷ xs) (x ∷ placed c a xs))
      go true e r =
          let l : f x ≤ f a = w.yes_ahead a x e in
          with_later (and l (every (λ y (k : f y ≤ f x). omega arith) xs h)) (with_later h hs)
      go false e r = with_later (placed_every c a xs (w.not_ahead a x e) h) r

  pub ranked_falls : (xs : List AuthorityIndex) → Pairs (λ x y. f y ≤ f x) (ranked c xs)
  unfolding ranked
  ranked_falls [] = no_pairs
  ranked_falls (x ∷ xs) = placed_falls x (ranked c xs) (ranked_falls xs)

-- those of whom a test holds have the same weights in rank
module _ (c : Committee) (f : AuthorityIndex → ℕ) (p : AuthorityIndex → Bool) where
  placed_total : (a : AuthorityIndex) (xs : List AuthorityIndex) → total f (keep p (placed c a xs)) ≡ total f (keep p (a ∷ xs))
  unfolding placed keep total
  placed_total a [] = refl
  placed_total a (x ∷ xs) = go (ahead c a x) (placed_total a xs)
    where
      swap : (s t : Bool) → total f (keep p (placed c a xs)) ≡ total f (pick s (a ∷ keep p xs) (keep p xs))
          → total f (pick t (x ∷ keep p (placed c a xs)) (keep p (placed c a xs))) ≡ total f
          (pick s (a ∷ pick t (x ∷ keep p xs) (keep p xs)) (pick t (x ∷ keep p xs) (keep p xs)))
      swap true true e = omega arith
      swap true false e = omega arith
      swap false true e = omega arith
      swap false false e = omega arith

      go : (t : Bool) → total f (keep p (placed c a xs)) ≡ total f (keep p (a ∷ xs)) → total f (keep p (pick t (a ∷ x ∷ xs) (x ∷ placed c a xs))) ≡ total f
          (keep p (a ∷ x ∷ xs))
      go true e = refl
      go false e = swap (p a) (p x) e

  cons_total : (a : AuthorityIndex) (xs ys : List AuthorityIndex) → total f (keep p xs) ≡ total f (keep p ys) → total f (keep p (a ∷ xs)) ≡ total f
      (keep p (a ∷ ys))
  unfolding keep total
  cons_total a xs ys e = go (p a)
    where
      go : (t : Bool) → total f (pick t (a ∷ keep p xs) (keep p xs)) ≡ total f (pick t (a ∷ keep p ys) (keep p ys))
      go true = omega arith
      go false = e

  pub ranked_total : (xs : List AuthorityIndex) → total f (keep p (ranked c xs)) ≡ total f (keep p xs)
  unfolding ranked
  ranked_total [] = refl
  ranked_total (x ∷ xs) = placed_total x (ranked c xs) ∙ cons_total x (ranked c xs) xs (ranked_total xs)

pub ranked_length : (c : Committee) (p : AuthorityIndex → Bool) (xs : List AuthorityIndex) → length (keep p (ranked c xs)) ≡ length (keep p xs)
ranked_length c p xs = total_ones (keep p (ranked c xs)) ∙ ranked_total c (λ _. 1) p xs ∙ sym (total_ones (keep p xs))

-- the same owners, each once
placed_in : (c : Committee) (a : AuthorityIndex) (xs : List AuthorityIndex) {z : AuthorityIndex} → z ∈ placed c a xs → (z ≡ a) ⊎ (z ∈ xs)
unfolding placed
placed_in c a [] m = in_cases m
placed_in c a (x ∷ xs) {z} m = go (ahead c a x) m (λ k. placed_in c a xs k)
  where
    put : (z ≡ x) ⊎ (z ∈ placed c a xs) → (z ∈ placed c a xs → (z ≡ a) ⊎ (z ∈ xs)) → (z ≡ a) ⊎ (z ∈ (x ∷ xs))
    put (inl e) ih = inr (in_first e)
    put (inr k) ih = more (ih k)
      where
        more : (z ≡ a) ⊎ (z ∈ xs) → (z ≡ a) ⊎ (z ∈ (x ∷ xs))
        more (inl e) = inl e
        more (inr j) = inr (there j)

    go : (t : Bool) → z ∈ pick t (a ∷ x ∷ xs) (x ∷ placed c a xs) → (z ∈ placed c a xs → (z ≡ a) ⊎ (z ∈ xs)) → (z ≡ a) ⊎ (z ∈ (x ∷ xs))
    go true k ih = in_cases k
    go false k ih = put (in_cases k) ih

pub ranked_in : (c : Committee) (xs : List AuthorityIndex) {z : AuthorityIndex} → z ∈ ranked c xs → z ∈ xs
unfolding ranked
ranked_in c [] m = m
ranked_in c (x ∷ xs) {z} m = go (placed_in c x (ranked c xs) m) (λ k. ranked_in c xs k)
  where
    go : (z ≡ x) ⊎ (z ∈ ranked c xs) → (z ∈ ranked c xs → z ∈ xs) → z ∈ (x ∷ xs)
    go (inl e) ih = in_first e
    go (inr k) ih = there (ih k)

placed_once : (c : Committee) (a : AuthorityIndex) (xs : List AuthorityIndex) → (a ∈ xs → ⊥) → Once xs → Once (placed c a xs)
unfolding placed
placed_once c a [] h o = also h o
placed_once c a (x ∷ xs) h (also k o) = go (ahead c a x) (placed_once c a xs (λ m. h (there m)) o)
  where
    apart : (x ≡ a) ⊎ (x ∈ xs) → ⊥
    apart (inl e) = h (in_first (sym e))
    apart (inr m) = k m

    go : (t : Bool) → Once (placed c a xs) → Once (pick t (a ∷ x ∷ xs) (x ∷ placed c a xs))
    go true r = also h (also k o)
    go false r = also (λ m. apart (placed_in c a xs m)) r

pub ranked_once : (c : Committee) (xs : List AuthorityIndex) → Once xs → Once (ranked c xs)
unfolding ranked
ranked_once c [] empty = empty
ranked_once c (x ∷ xs) (also h o) = placed_once c x (ranked c xs) (λ m. h (ranked_in c xs m)) (ranked_once c xs o)
