-- Tests and lists, as all the definitions above use them. Assumes nothing: these are definitions.
use Rattle.std.specs.Prelude.{ℕ, zero, suc, ◌+◌, Bool, true, false, ◌&&◌, ◌||◌, List, [], ◌∷◌, eqb, ltb}
use Rattle.std.proofs.Math.Option.{Option, none, some}

-- the first where the test holds, else the second
abbrev pub pick {ℓ} : {A : Type ℓ} → Bool → A → A → A
pick true a b = a
pick false a b = b

module _ {A : Type 0} where
  unfoldable pub is_empty : List A → Bool
  is_empty [] = true
  is_empty (x ∷ xs) = false

  -- the test holds of some element
  unfoldable pub any_of : (A → Bool) → List A → Bool
  any_of p [] = false
  any_of p (x ∷ xs) = p x || any_of p xs

  -- the test holds of every element
  unfoldable pub all_of : (A → Bool) → List A → Bool
  all_of p [] = true
  all_of p (x ∷ xs) = p x && all_of p xs

  -- the test holds of every element with every later one
  unfoldable pub pairwise : (A → A → Bool) → List A → Bool
  pairwise p [] = true
  pairwise p (x ∷ xs) = all_of (p x) xs && pairwise p xs

  -- the test holds of the first element, if there is one
  unfoldable pub first_is : (A → Bool) → List A → Bool
  first_is p [] = true
  first_is p (x ∷ xs) = p x

  -- the test holds of every element with the next one
  unfoldable pub adjacent : (A → A → Bool) → List A → Bool
  adjacent p [] = true
  adjacent p (x ∷ xs) = first_is (p x) xs && adjacent p xs

  -- the elements of which the test holds
  unfoldable pub keep : (A → Bool) → List A → List A
  keep p [] = []
  keep p (x ∷ xs) = pick (p x) (x ∷ keep p xs) (keep p xs)

  -- the first element of which the test holds
  unfoldable pub find : (A → Bool) → List A → Option A
  find p [] = none
  find p (x ∷ xs) = pick (p x) (some x) (find p xs)

  -- the test holds of what is there
  unfoldable pub holds : (A → Bool) → Option A → Bool
  holds p none = false
  holds p (some x) = p x

  unfoldable pub is_none : Option A → Bool
  is_none none = true
  is_none (some x) = false

unfoldable pub sum_of : List ℕ → ℕ
sum_of [] = 0
sum_of (x ∷ xs) = x + sum_of xs

-- the n numbers from i on
unfoldable pub count_from : ℕ → ℕ → List ℕ
count_from i zero = []
count_from i (suc n) = i ∷ count_from (i + 1) n

-- the same numbers in the same order
unfoldable pub same : List ℕ → List ℕ → Bool
same [] [] = true
same [] (y ∷ ys) = false
same (x ∷ xs) [] = false
same (x ∷ xs) (y ∷ ys) = eqb x y && same xs ys

-- before the other at the first place where they differ
unfoldable pub before : List ℕ → List ℕ → Bool
before [] [] = false
before [] (y ∷ ys) = true
before (x ∷ xs) [] = false
before (x ∷ xs) (y ∷ ys) = ltb x y || (eqb x y && before xs ys)

-- what stands in a list
infix 50 ◌∈◌
pub data ◌∈◌ {A : Type 0} (a : A) : List A → Type 0 where
  here : {xs : List A} → a ∈ (a ∷ xs)
  there : {x : A} {xs : List A} → a ∈ xs → a ∈ (x ∷ xs)

-- every element once
pub data Once {A : Type 0} : List A → Type 0 where
  empty : Once []
  also : {x : A} {xs : List A} → (x ∈ xs → ⊥) → Once xs → Once (x ∷ xs)
