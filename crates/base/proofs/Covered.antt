-- Elements that differ, as many as a list has, are all of its elements. Assumes nothing.
use mathlib.Core.Path.{◌≡◌, refl, sym, ap, subst}
use mathlib.Core.Logic.{◌⊎◌, inl, inr}
use mathlib.Core.List.{List, [], ◌∷◌, ◌++◌}
use Prim.Native.Nat.{◌≤◌}
use native.Mathlib.Omega.{arith}
use lib.ListN.{length, length-append}
use Rattle.base.specs.Lists.{◌∈◌, here, there, Once, also}
use Rattle.base.proofs.Members.{in_cases, in_left, in_right, in_append}

module _ {A : Type 0} where
  -- a list around one of its elements
  pub record Around (x : A) (ys : List A) : Type 0 where
    pub before : List A
    pub after : List A
    pub are : ys ≡ before ++ x ∷ after

  pub around : {x : A} {ys : List A} → x ∈ ys → Around x ys
  around {ys = []} x3 = elim x3 [ ]
  around {ys = y ∷ ys} here = record { before = []; after = ys; are = refl }
  around {ys = y ∷ ys} (there m) =
      let r = around m in
      record { before = y ∷ r.before; after = r.after; are = ap (λ (l : List A). y ∷ l) r.are }

  -- every element of ys is x, or stands in the rest
  pub in_rest : {x a : A} (bs as' : List A) → a ∈ (bs ++ x ∷ as') → (a ≡ x) ⊎ (a ∈ (bs ++ as'))
  in_rest {x} {a} bs as' m = by_append (in_append bs m)
    where
      by_cons : (a ≡ x) ⊎ (a ∈ as') → (a ≡ x) ⊎ (a ∈ (bs ++ as'))
      by_cons (inl e) = inl e
      by_cons (inr k) = inr (in_right bs k)

      by_append : (a ∈ bs) ⊎ (a ∈ (x ∷ as')) → (a ≡ x) ⊎ (a ∈ (bs ++ as'))
      by_append (inl k) = inr (in_left as' k)
      by_append (inr k) = by_cons (in_cases k)

  pub covered : (xs ys : List A) → Once xs → ((a : A) → a ∈ xs → a ∈ ys) → length ys ≤ length xs → (a : A) → a ∈ ys → a ∈ xs
  covered [] [] o f l a m = m
  covered [] (y ∷ ys) o f l a m = absurd (omega arith)
  covered (x ∷ xs) ys (also new o) f l a m =
      let r : Around x ys = around (f x here) in
      let bs : List A = r.before in
      let as' : List A = r.after in
      let less : (b : A) → b ∈ xs → b ∈ (bs ++ as') =
      λ b k. other b k (in_rest bs as' (subst (λ (l : List A). b ∈ l) r.are (f b (there k)))) in
      let many : length ys ≡ length (bs ++ x ∷ as') = ap length r.are in
      let few : length (bs ++ as') ≤ length xs = omega (arith, many, length-append bs (x ∷ as'), length-append bs as') in
      found (in_rest bs as' (subst (λ (l : List A). a ∈ l) r.are m)) (covered xs (bs ++ as') o less few a)
    where
      other : {zs : List A} (b : A) → b ∈ xs → (b ≡ x) ⊎ (b ∈ zs) → b ∈ zs
      other b k (inl e) = absurd (new (subst (λ (y : A). y ∈ xs) e k))
      other b k (inr h) = h

      found : {zs : List A} → (a ≡ x) ⊎ (a ∈ zs) → (a ∈ zs → a ∈ xs) → a ∈ (x ∷ xs)
      found (inl e) g = subst (λ (y : A). y ∈ (x ∷ xs)) (sym e) here
      found (inr k) g = there (g k)
