-- Of fewer elements a stronger test holds. Assumes nothing.
use mathlib.Core.Path.{◌≡◌, refl}
use mathlib.Core.Bool.{Bool, true, false}
use mathlib.Core.List.{List, [], ◌∷◌}
use Prim.Native.Nat.{◌≤◌, ◌<◌}
use native.Mathlib.Omega.{arith}
use lib.ListN.{length}
use Rattle.base.specs.Lists.{pick, keep, ◌∈◌, here, there}
use Rattle.base.proofs.Tests.{not_both}

module _ {A : Type 0} (p q : A → Bool) (f : (x : A) → q x ≡ true → p x ≡ true) where
  no_more : (xs : List A) → length (keep q xs) ≤ length (keep p xs)
  unfolding keep
  no_more [] = omega arith
  no_more (x ∷ xs) = go (p x) (q x) refl refl (no_more xs)
    where
      go : (t u : Bool) → p x ≡ t → q x ≡ u → length (keep q xs) ≤ length (keep p xs) → length (pick u (x ∷ keep q xs) (keep q xs)) ≤ length
          (pick t (x ∷ keep p xs) (keep p xs))
      go true true a b h = omega arith
      go true false a b h = omega arith
      go false true a b h = absurd (not_both (f x b) a)
      go false false a b h = h

  pub fewer_kept : (a : A) → p a ≡ true → q a ≡ false → (xs : List A) → a ∈ xs → length (keep q xs) < length (keep p xs)
  unfolding keep
  fewer_kept a h k [] x' = elim x' [ ]
  fewer_kept a h k (x ∷ xs) here = rw (h, k) (omega (arith, no_more xs))
  fewer_kept a h k (x ∷ xs) (there m) = go (p x) (q x) refl refl (fewer_kept a h k xs m)
    where
      go : (t u : Bool) → p x ≡ t → q x ≡ u → length (keep q xs) < length (keep p xs) → length (pick u (x ∷ keep q xs) (keep q xs)) < length
          (pick t (x ∷ keep p xs) (keep p xs))
      go true true b e g = omega arith
      go true false b e g = omega arith
      go false true b e g = absurd (not_both (f x e) b)
      go false false b e g = g
