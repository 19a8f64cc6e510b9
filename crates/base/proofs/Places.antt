-- What holds of the elements of a list, by their places. Assumes nothing.
use mathlib.Core.Path.{◌≡◌, refl}
use mathlib.Core.List.{List, [], ◌∷◌}
use Prim.Native.Nat.{ℕ, zero, suc, ◌<◌}
use native.Mathlib.Omega.{arith}
use lib.ListN.{length, get_or}
use Rattle.base.specs.Lists.{◌∈◌, here, there}
use Rattle.base.proofs.Lists.{Every, none_of, and, Pairs, no_pairs, with_later}

module _ {A : Type 0} (d : A) where
  pub in_place : (xs : List A) (j : ℕ) → j < length xs → get_or xs j d ∈ xs
  in_place [] j h = absurd (omega arith)
  in_place (x ∷ xs) zero h = here
  in_place (x ∷ xs) (suc j) h = there (in_place xs j (omega arith))

  pub member_place : (xs : List A) {x : A} → x ∈ xs → (j : ℕ) × ((j < length xs) × (get_or xs j d ≡ x))
  member_place [] x3 = elim x3 [ ]
  member_place (y ∷ xs) here = (0, (omega arith, refl))
  member_place (y ∷ xs) (there m) = let r = member_place xs m in (suc r.0, (omega (arith, r.1.0), r.1.1))

  pub every_place : {P : A → Type 0} (xs : List A) (j : ℕ) → Every P xs → j < length xs → P (get_or xs j d)
  every_place [] j none_of h = absurd (omega arith)
  every_place (x ∷ xs) zero (and k ks) h = k
  every_place (x ∷ xs) (suc j) (and k ks) h = every_place xs j ks (omega arith)

  pub places_every : {P : A → Type 0} (xs : List A) → ((j : ℕ) → j < length xs → P (get_or xs j d)) → Every P xs
  places_every [] f = none_of
  places_every (x ∷ xs) f = and (f 0 (omega arith)) (places_every xs (λ j h. f (suc j) (omega arith)))

  pub pairs_places : {R : A → A → Type 0} (xs : List A) (i j : ℕ) → Pairs R xs → i < j → j < length xs → R (get_or xs i d) (get_or xs j d)
  pairs_places [] i j no_pairs h k = absurd (omega arith)
  pairs_places (x ∷ xs) i zero (with_later a as') h k = absurd (omega arith)
  pairs_places (x ∷ xs) zero (suc j) (with_later a as') h k = every_place xs j a (omega arith)
  pairs_places (x ∷ xs) (suc i) (suc j) (with_later a as') h k = pairs_places xs i j as' (omega arith) (omega arith)
