-- Lists by the element at an index. Assumes nothing.
use mathlib.Core.Path.{◌≡◌, refl}
use mathlib.Core.Bool.{Bool, true, false, ◌&&◌, ◌||◌}
use mathlib.Core.List.{List, [], ◌∷◌, ◌++◌}
use mathlib.Core.Option.{none, some}
use Prim.Native.Nat.{ℕ, zero, suc, ◌+◌, ◌-◌, ◌≤◌, ◌<◌}
use native.Mathlib.Nat.{add-zero, add-suc, suc-add}
use native.Mathlib.Omega.{arith}
use lib.ListN.{length, get_or, set, length-set}
use lib.Seq.{get_or-append-add, get_or-set_same, sets}
use Rattle.base.specs.Lists.{any_of, all_of, find}
use Rattle.base.proofs.Tests.{not_both, fails}
use Rattle.base.proofs.Lists.{Pairs, no_pairs, with_later, all_every, every_all}
use Rattle.base.proofs.Places.{every_place, places_every}
use Rattle.base.proofs.Le.{get_d_sets_below}

module _ {A : Type 0} (d : A) where
  pub at_pairs : {R : A → A → Type 0} (xs : List A) → ((i j : ℕ) → i < j → j < length xs → R (get_or xs i d) (get_or xs j d)) → Pairs R xs
  at_pairs [] f = no_pairs
  at_pairs (x ∷ xs) f =
      with_later (places_every d xs (λ j (h : j < length xs). f 0 (suc j) (omega arith) (omega arith)))
      (at_pairs xs (λ i j (h : i < j) (k : j < length xs). f (suc i) (suc j) (omega arith) (omega arith)))

  -- a test that fails of every element
  pub find_no : (p : A → Bool) (xs : List A) → ((i : ℕ) → i < length xs → p (get_or xs i d) ≡ false) → find p xs ≡ none
  unfolding find
  find_no p [] f = refl
  find_no p (x ∷ xs) f = rw (f 0 (omega arith)) (find_no p xs (λ i (h : i < length xs). f (suc i) (omega arith)))

  pub any_no : (p : A → Bool) (xs : List A) → ((i : ℕ) → i < length xs → p (get_or xs i d) ≡ false) → any_of p xs ≡ false
  unfolding any_of
  any_no p [] f = refl
  any_no p (x ∷ xs) f = rw (f 0 (omega arith)) (any_no p xs (λ i (h : i < length xs). f (suc i) (omega arith)))

  -- a test that holds at an index, and of no element before it
  pub find_at : (p : A → Bool) (xs : List A) (i : ℕ) → i < length xs → ((j : ℕ) → j < i → p (get_or xs j d) ≡ false) → p (get_or xs i d) ≡ true
      → find p xs ≡ some (get_or xs i d)
  unfolding find
  find_at p [] i h f e = absurd (omega arith)
  find_at p (x ∷ xs) zero h f e = rw e
  find_at p (x ∷ xs) (suc i) h f e = rw (f 0 (omega arith)) (find_at p xs i (omega arith) (λ j (k : j < i). f (suc j) (omega arith)) e)

  pub any_at : (p : A → Bool) (xs : List A) (i : ℕ) → i < length xs → p (get_or xs i d) ≡ true → any_of p xs ≡ true
  unfolding any_of
  any_at p [] i h e = absurd (omega arith)
  any_at p (x ∷ xs) zero h e = rw e
  any_at p (x ∷ xs) (suc i) h e = go (p x) (any_at p xs i (omega arith) e)
    where
      go : (t : Bool) → any_of p xs ≡ true → t || any_of p xs ≡ true
      go true k = refl
      go false k = k

  -- a list of two parts at an index of the second
  pub get_d_right : (xs ys : List A) (k : ℕ) → length xs ≤ k → get_or (xs ++ ys) k d ≡ get_or ys (k - length xs) d
  get_d_right xs ys k h =
      let e : length xs + (k - length xs) ≡ k = omega arith in
      rw e at (get_or-append-add xs ys (k - length xs) d)

-- a run of stores, where it was stored
pub get_d_sets_in : (vs l : List ℕ) (i k : ℕ) → k < length vs → i + length vs ≤ length l → get_or (sets l i vs) (i + k) 0 ≡ get_or vs k 0
get_d_sets_in [] l i k h m = absurd (omega arith)
get_d_sets_in (v ∷ vs) l i zero h m = rw (add-zero i, get_d_sets_below vs (set l i v) (suc i) i (omega arith)) (get_or-set_same l i v 0 (omega arith))
get_d_sets_in (v ∷ vs) l i (suc k) h m =
    rw (add-suc i k, ← suc-add i k) (get_d_sets_in vs (set l i v) (suc i) k (omega arith) (simp length-set (omega arith)))

-- a test of every element, by index
module _ {A : Type 0} (d : A) where
  pub all_yes : (p : A → Bool) (xs : List A) → ((i : ℕ) → i < length xs → p (get_or xs i d) ≡ true) → all_of p xs ≡ true
  all_yes p xs f = every_all p xs (places_every d xs f)

  pub all_at : (p : A → Bool) (xs : List A) → all_of p xs ≡ true → (i : ℕ) → i < length xs → p (get_or xs i d) ≡ true
  all_at p xs h i l = every_place d xs i (all_every p xs h) l

  pub all_not : (p : A → Bool) (xs : List A) (i : ℕ) → i < length xs → p (get_or xs i d) ≡ false → all_of p xs ≡ false
  all_not p xs i h e = fails (all_of p xs) (λ k. not_both (all_at p xs k i h) e)

pub all_and : {A : Type 0} (p q : A → Bool) (xs : List A) → all_of (λ x. p x && q x) xs ≡ all_of p xs && all_of q xs
unfolding all_of
all_and p q [] = refl
all_and p q (x ∷ xs) = rw (all_and p q xs) (go (p x) (q x) (all_of p xs) (all_of q xs))
  where
    go : (a b c d : Bool) → (a && b) && (c && d) ≡ (a && c) && (b && d)
    go false b c d = refl
    go true false false d = refl
    go true false true d = refl
    go true true c d = refl
