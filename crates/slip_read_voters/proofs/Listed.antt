-- Things read one after the other, whose keys strictly ascend. Assumes nothing.
use mathlib.Core.Path.{◌≡◌, refl, sym, ap, subst, ◌∙◌}
use mathlib.Core.Logic.{◌⊎◌, inl, inr}
use mathlib.Core.Bool.{Bool, true, false}
use mathlib.Core.List.{List, [], ◌∷◌, ◌++◌, append_assoc, append-nil}
use mathlib.Core.Option.{Option, none, some, map, some-injective, none-ne-some}
use Prim.Native.Nat.{ℕ, zero, suc, ◌+◌, ◌-◌, ◌≤◌, ◌<◌}
use native.Mathlib.Omega.{arith}
use native.Mathlib.Numerals.{sub-one}
use native.Mathlib.Decide.{dec_lt}
use lib.ListN.{length, drop}
use Rattle.base.specs.Lists.{all_of, pairwise, ◌∈◌, here, there}
use Rattle.base.specs.Le.{Bytes}
use Rattle.base.specs.Read.{Part, Read, give, onward, ◌>>=◌, repeated}
use Rattle.base.proofs.Tests.{and_left, and_right, fails, not_both}
use Rattle.base.proofs.Lists.{Every, none_of, and, pairs_pairwise, pairwise_pairs, pairs_append, no_pairs, with_later}
use Rattle.base.proofs.Members.{in_append, in_cases, in_empty, in_right, all_in}
use Rattle.base.proofs.Read.{part}

module _ {A : Type 0} where
  -- some were read before
  unfoldable pub read_before : List A → Option (Part (List A)) → Option (Part (List A))
  read_before xs o = map (λ p. part (xs ++ p.value) p.rest) o

  before_none : (o : Option (Part (List A))) → o ≡ read_before [] o
  unfolding read_before
  before_none none = refl
  before_none (some p) = refl

  before_one : (xs : List A) (x : A) (m : Read A) (n : ℕ) (s t : Bytes) → 0 < n → m s ≡ some (part x t) → read_before xs (repeated n m s) ≡ read_before
      (xs ++ x ∷ []) (repeated (n - 1) m t)
  unfolding read_before repeated ◌>>=◌ onward give
  before_one xs x m zero s t l h = absurd (omega arith)
  before_one xs x m (suc n) s t l h = rw (h, sub-one (suc n)) (go (repeated n m t))
    where
      go : (o : Option (Part (List A))) → map (λ p. part (xs ++ p.value) p.rest) (onward o (λ rest. give (x ∷ rest))) ≡ map
          (λ p. part ((xs ++ x ∷ []) ++ p.value) p.rest) o
      go none = refl
      go (some p) = ap (λ (ys : List A). some (part ys p.rest)) (sym (append_assoc xs (x ∷ []) p.value))

  repeated_none : (m : Read A) (n : ℕ) (s : Bytes) → 0 < n → m s ≡ none → repeated n m s ≡ none
  unfolding repeated ◌>>=◌ onward
  repeated_none m zero s l h = absurd (omega arith)
  repeated_none m (suc n) s l h = rw h

  -- of a list that rises, an element is lower than a later one
  rises_to : (lower : A → A → Bool) (y x : A) (zs ys : List A) → y ∈ zs → pairwise lower (zs ++ x ∷ ys) ≡ true → lower y x ≡ true
  unfolding pairwise
  rises_to lower y x [] ys x3 h = elim x3 [ ]
  rises_to lower y x (z ∷ zs) ys here h = all_in (lower y) (zs ++ x ∷ ys) (and_left (all_of (lower y) (zs ++ x ∷ ys)) _ h) (in_right zs here)
  rises_to lower y x (z ∷ zs) ys (there k) h = rises_to lower y x zs ys k (and_right (all_of (lower z) (zs ++ x ∷ ys)) _ h)

module _ {A K : Type 0} (m : Read A) (key : A → K) (lt : K → K → Bool) (trans : (a b c : K) → lt a b ≡ true → lt b c ≡ true → lt a c ≡ true) where
  abbrev pub rising : List A → Bool
  rising xs = pairwise (λ x y. lt (key x) (key y)) xs

  -- i of n were read, the last with that key
  pub record Listed (s : Bytes) (from n at i : ℕ) (last : K) (xs : List A) : Type 0 where
    pub rest : repeated n m (drop from s) ≡ read_before xs (repeated (n - i) m (drop at s))
    pub few : i ≤ n
    pub inside : at ≤ length s
    pub rises : rising xs ≡ true
    pub below : (x : A) → x ∈ xs → (key x ≡ last) ⊎ (lt (key x) last ≡ true)
    pub top : 0 < i → (x : A) × (x ∈ xs) × (key x ≡ last)
    pub first : i ≡ 0 → xs ≡ []

  module _ (s : Bytes) (from n : ℕ) where
    pub listed_start : (last : K) → from ≤ length s → Listed s from n from 0 last []
    unfolding pairwise
    listed_start last h =
        record {
          rest = let e : n ≡ n - 0 = omega arith in before_none (repeated n m (drop from s)) ∙ ap (λ (k : ℕ). read_before [] (repeated k m (drop from s))) e;
          few = omega arith;
          inside = h;
          rises = refl;
          below = λ x k. absurd (in_empty k);
          top = λ (k : 0 < 0). absurd (omega arith);
          first = λ e. refl;
        }

    module _ (at i : ℕ) (last : K) (xs : List A) (l : Listed s from n at i last xs) where
      pub listed_done : n ≤ i → repeated n m (drop from s) ≡ some (part xs (drop at s))
      unfolding read_before repeated give
      listed_done h =
          let e : n - i ≡ 0 = omega arith in
          l.rest ∙ ap (λ (k : ℕ). read_before xs (repeated k m (drop at s))) e ∙ rw (append-nil xs)

      module _ (more : i < n) where
        pub listed_none : m (drop at s) ≡ none → repeated n m (drop from s) ≡ none
        unfolding read_before
        listed_none h = l.rest ∙ rw (repeated_none m (n - i) (drop at s) (omega arith) h)

        module _ (x : A) (end : ℕ) (took : m (drop at s) ≡ some (part x (drop end s))) where
          next : repeated n m (drop from s) ≡ read_before (xs ++ x ∷ []) (repeated (n - (i + 1)) m (drop end s))
          next =
              let e : n - i - 1 ≡ n - (i + 1) = omega arith in
              l.rest ∙ before_one xs x m (n - i) (drop at s) (drop end s) (omega arith) took
              ∙ ap (λ (k : ℕ). read_before (xs ++ x ∷ []) (repeated k m (drop end s))) e

          -- its key is not above the last
          pub listed_falls : 0 < i → lt last (key x) ≡ false → (p : Part (List A)) → repeated n m (drop from s) ≡ some p → rising p.value ≡ false
          unfolding read_before
          listed_falls h f p e = go (repeated (n - (i + 1)) m (drop end s)) (sym next ∙ e)
            where
              bad : (ys : List A) → rising ((xs ++ x ∷ []) ++ ys) ≡ false
              bad ys =
                  let t = l.top h in
                  fails _ λ r.
                  not_both (rises_to (λ a b. lt (key a) (key b)) t.0 x xs ys t.1 (ap rising (sym (append_assoc xs (x ∷ []) ys)) ∙ r))
                  (ap (λ (k : K). lt k (key x)) t.2 ∙ f)

              go : (o : Option (Part (List A))) → read_before (xs ++ x ∷ []) o ≡ some p → rising p.value ≡ false
              go none k = absurd (none-ne-some p k)
              go (some r) k = ap (λ (z : Part (List A)). rising z.value) (sym (some-injective _ _ k)) ∙ bad r.value

          pub listed_on : (0 < i → lt last (key x) ≡ true) → end ≤ length s → Listed s from n end (i + 1) (key x) (xs ++ x ∷ [])
          listed_on h e =
              record {
                rest = next;
                few = omega arith;
                inside = e;
                rises =
                    pairs_pairwise (λ x y. lt (key x) (key y)) (xs ++ x ∷ [])
                    (pairs_append xs (x ∷ []) (pairwise_pairs (λ x y. lt (key x) (key y)) xs l.rises) (with_later none_of no_pairs)
                    (all_below xs (λ y k. under y k)));
                below = λ y k. split y (in_append xs k);
                top = λ k. (x, in_right xs here, refl);
                first = λ (k : i + 1 ≡ 0). absurd (omega arith);
              }
            where
              some_read : {y : A} → y ∈ xs → 0 < i
              some_read {y} k = go (dec_lt 0 i)
                where
                  go : Dec (0 < i) → 0 < i
                  go (yes a) = a
                  go (no a) = absurd (in_empty (subst (λ (zs : List A). y ∈ zs) (l.first (omega arith)) k))

              under : (y : A) → y ∈ xs → lt (key y) (key x) ≡ true
              under y k = go (l.below y k)
                where
                  go : (key y ≡ last) ⊎ (lt (key y) last ≡ true) → lt (key y) (key x) ≡ true
                  go (inl q) = ap (λ (z : K). lt z (key x)) q ∙ h (some_read k)
                  go (inr q) = trans (key y) last (key x) q (h (some_read k))

              all_below : (ys : List A) → ((y : A) → y ∈ ys → lt (key y) (key x) ≡ true) → Every (λ y. Every (λ z. lt (key y) (key z) ≡ true) (x ∷ [])) ys
              all_below [] g = none_of
              all_below (y ∷ ys) g = and (and (g y here) none_of) (all_below ys (λ z k. g z (there k)))

              split : (y : A) → (y ∈ xs) ⊎ (y ∈ (x ∷ [])) → (key y ≡ key x) ⊎ (lt (key y) (key x) ≡ true)
              split y (inl k) = inr (under y k)
              split y (inr k) = last_one (in_cases k)
                where
                  last_one : (y ≡ x) ⊎ (y ∈ []) → (key y ≡ key x) ⊎ (lt (key y) (key x) ≡ true)
                  last_one (inl q) = inl (ap key q)
                  last_one (inr q) = absurd (in_empty q)
