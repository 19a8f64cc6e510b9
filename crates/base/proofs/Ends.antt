-- A list with one more element at its end. Assumes nothing.
use mathlib.Core.Path.{◌≡◌, refl, sym}
use mathlib.Core.Logic.{◌⊎◌, inl, inr}
use mathlib.Core.List.{List, [], ◌∷◌, ◌++◌, cons-ne-nil, append-ne-nil_of_right_ne-nil}

module _ {A : Type 0} where
  -- a list that is split is not empty
  pub split_not_empty : (earlier : List A) (y : A) (later : List A) → [] ≡ earlier ++ y ∷ later → ⊥
  split_not_empty earlier y later e = append-ne-nil_of_right_ne-nil earlier (cons-ne-nil y later) (sym e)

  -- split somewhere, it is split at that element, or the list before it is
  pub ended : (xs earlier : List A) (x y : A) (later : List A) → xs ++ x ∷ [] ≡ earlier ++ y ∷ later
      → ((xs ≡ earlier) × (x ≡ y)) ⊎ ((rest : List A) × (xs ≡ earlier ++ y ∷ rest))
  ended [] [] x y later e = inl (refl, cc)
  ended [] (z ∷ earlier) x y later e = absurd (split_not_empty earlier y later (cc))
  ended (w ∷ xs) [] x y later e = let q : w ≡ y = cc in inr (xs, rw q)
  ended (w ∷ xs) (z ∷ earlier) x y later e = let q : w ≡ z = cc in go q (ended xs earlier x y later (cc))
    where
      go : w ≡ z → ((xs ≡ earlier) × (x ≡ y)) ⊎ ((rest : List A) × (xs ≡ earlier ++ y ∷ rest))
          → ((w ∷ xs ≡ z ∷ earlier) × (x ≡ y)) ⊎ ((rest : List A) × (w ∷ xs ≡ z ∷ earlier ++ y ∷ rest))
      go q (inl r) = inl (rw (q, r.0), r.1)
      go q (inr r) = inr (r.0, rw (q, r.1))
