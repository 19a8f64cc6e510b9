-- Checks of two lists together; a test of all and of any. Assumes nothing.
use mathlib.Core.Path.{◌≡◌, refl}
use mathlib.Core.List.{List, [], ◌∷◌, ◌++◌}
use mathlib.Core.Bool.{Bool, true, false, not, ◌&&◌, ◌||◌}
use Rattle.base.specs.Lists.{any_of, all_of}
use Rattle.base.specs.Checks.{Check, passes}

module _ {A : Type 0} where
  pub all_append : (p : A → Bool) (xs ys : List A) → all_of p (xs ++ ys) ≡ all_of p xs && all_of p ys
  unfolding all_of
  all_append p [] ys = refl
  all_append p (x ∷ xs) ys = go (p x) (all_append p xs ys)
    where
      go : (t : Bool) → all_of p (xs ++ ys) ≡ all_of p xs && all_of p ys → t && all_of p (xs ++ ys) ≡ (t && all_of p xs) && all_of p ys
      go true h = h
      go false h = refl

  -- it does not fail of any
  pub not_any : (p : A → Bool) (xs : List A) → not (any_of (λ x. not (p x)) xs) ≡ all_of p xs
  unfolding any_of all_of
  not_any p [] = refl
  not_any p (x ∷ xs) = go (p x) (not_any p xs)
    where
      go : (t : Bool) → not (any_of (λ y. not (p y)) xs) ≡ all_of p xs → not (not t || any_of (λ y. not (p y)) xs) ≡ t && all_of p xs
      go true h = h
      go false h = refl

pub passes_append : (ks ls : List Check) → passes (ks ++ ls) ≡ passes ks && passes ls
unfolding passes
passes_append ks ls = all_append (λ k. not k.applies) ks ls
