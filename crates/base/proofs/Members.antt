-- What stands in a list that was made from others. Assumes nothing.
use mathlib.Core.Path.{◌≡◌, refl, sym, subst}
use mathlib.Core.Logic.{◌⊎◌, inl, inr}
use mathlib.Core.Bool.{Bool, true, false, true≢false}
use mathlib.Core.List.{List, [], ◌∷◌, ◌++◌, map, flatten}
use mathlib.Core.Option.{some}
use Prim.Native.Nat.{ℕ, zero, suc, ◌+◌, ◌≤◌, ◌<◌}
use native.Mathlib.Decide.{ℕ_discrete}
use native.Mathlib.Omega.{arith}
use Rattle.base.specs.Lists.{pick, any_of, all_of, keep, find, count_from, ◌∈◌, here, there, Once, empty, also}
use Rattle.base.proofs.Tests.{or_cases, or_left, or_right, and_both, and_left, and_right}

module _ {A : Type 0} where
  -- nothing stands in the empty list
  pub in_empty : {a : A} → a ∈ [] → ⊥
  in_empty m = elim m [ ]

  -- what stands in a list is its first element or stands in the rest
  pub in_cases : {a x : A} {xs : List A} → a ∈ (x ∷ xs) → (a ≡ x) ⊎ (a ∈ xs)
  in_cases here = inl refl
  in_cases (there m) = inr m

  pub in_first : {a x : A} {xs : List A} → a ≡ x → a ∈ (x ∷ xs)
  in_first {a} {x} {xs} e = subst (λ (y : A). a ∈ (y ∷ xs)) e here

  pub in_left : {a : A} {xs : List A} (ys : List A) → a ∈ xs → a ∈ (xs ++ ys)
  in_left ys here = here
  in_left ys (there m) = there (in_left ys m)

  pub in_right : {a : A} (xs : List A) {ys : List A} → a ∈ ys → a ∈ (xs ++ ys)
  in_right [] m = m
  in_right (x ∷ xs) m = there (in_right xs m)

  pub in_append : {a : A} (xs : List A) {ys : List A} → a ∈ (xs ++ ys) → (a ∈ xs) ⊎ (a ∈ ys)
  in_append [] m = inr m
  in_append (x ∷ xs) here = inl here
  in_append {a} (x ∷ xs) {ys} (there m) = rest (in_append xs m)
    where
      rest : (a ∈ xs) ⊎ (a ∈ ys) → (a ∈ (x ∷ xs)) ⊎ (a ∈ ys)
      rest (inl k) = inl (there k)
      rest (inr k) = inr k

  -- what stands in some of the lists stands in them together
  pub in_flatten : {a : A} {xs : List A} {xss : List (List A)} → a ∈ xs → xs ∈ xss → a ∈ flatten xss
  unfolding flatten
  in_flatten {a = a} {xs = xs} {xss = []} m x5 = elim x5 [ ]
  in_flatten {xss = xs ∷ xss} m here = in_left (flatten xss) m
  in_flatten {xss = ys ∷ xss} m (there k) = in_right ys (in_flatten m k)

  pub flatten_in : {a : A} (xss : List (List A)) → a ∈ flatten xss → (xs : List A) × (a ∈ xs) × (xs ∈ xss)
  unfolding flatten
  flatten_in [] m = absurd (in_empty m)
  flatten_in {a} (ys ∷ xss) m = split (λ k. flatten_in xss k) (in_append ys m)
    where
      split : (a ∈ flatten xss → (xs : List A) × (a ∈ xs) × (xs ∈ xss)) → (a ∈ ys) ⊎ (a ∈ flatten xss) → (xs : List A) × (a ∈ xs) × (xs ∈ (ys ∷ xss))
      split f (inl k) = (ys, k, here)
      split f (inr k) = let r = f k in (r.0, r.1, there r.2)

  -- a test holds of some element
  pub any_in : (p : A → Bool) (xs : List A) → any_of p xs ≡ true → (x : A) × (x ∈ xs) × (p x ≡ true)
  unfolding any_of
  any_in p [] h = absurd (true≢false (sym h))
  any_in p (x ∷ xs) h = split (λ k. any_in p xs k) (or_cases (p x) (any_of p xs) h)
    where
      split : (any_of p xs ≡ true → (y : A) × (y ∈ xs) × (p y ≡ true)) → (p x ≡ true) ⊎ (any_of p xs ≡ true) → (y : A) × (y ∈ (x ∷ xs)) × (p y ≡ true)
      split f (inl k) = (x, here, k)
      split f (inr k) = let r = f k in (r.0, there r.1, r.2)

  pub in_any : (p : A → Bool) {x : A} {xs : List A} → x ∈ xs → p x ≡ true → any_of p xs ≡ true
  unfolding any_of
  in_any p {x = x} {xs = []} x6 h = elim x6 [ ]
  in_any p {x} {xs = y ∷ xs} here h = or_left (p x) (any_of p xs) h
  in_any p {x} {xs = y ∷ ys} (there m) h = or_right (p y) (any_of p ys) (in_any p m h)

  -- where a test holds of an element one is found, that or another before it
  pub find_some : (p : A → Bool) {x : A} (xs : List A) → x ∈ xs → p x ≡ true → (y : A) × (find p xs ≡ some y)
  unfolding find
  find_some p {x = x} [] x3 h = elim x3 [ ]
  find_some p {x} (y ∷ xs) here h = (x, rw h)
  find_some p (y ∷ xs) (there m) h = go (p y) (find_some p xs m h)
    where
      go : (t : Bool) → (z : A) × (find p xs ≡ some z) → (z : A) × (pick t (some y) (find p xs) ≡ some z)
      go true z = (y, refl)
      go false z = z

  -- a test holds of all elements
  pub all_in : (p : A → Bool) {x : A} (xs : List A) → all_of p xs ≡ true → x ∈ xs → p x ≡ true
  unfolding all_of
  all_in p [] h x3 = elim x3 [ ]
  all_in p (y ∷ xs) h here = and_left (p y) (all_of p xs) h
  all_in p (y ∷ xs) h (there m) = all_in p xs (and_right (p y) (all_of p xs) h) m

  pub in_all : (p : A → Bool) (xs : List A) → ((x : A) → x ∈ xs → p x ≡ true) → all_of p xs ≡ true
  unfolding all_of
  in_all p [] f = refl
  in_all p (x ∷ xs) f = and_both (p x) (all_of p xs) (f x here) (in_all p xs (λ y m. f y (there m)))

  -- the elements of which a test holds
  pub in_keep : (p : A → Bool) {x : A} (xs : List A) → x ∈ xs → p x ≡ true → x ∈ keep p xs
  unfolding keep
  in_keep p {x = x} [] x3 h = elim x3 [ ]
  in_keep p (x ∷ xs) here h = rw h here
  in_keep p {x} (y ∷ xs) (there m) h = kept (p y) (in_keep p xs m h)
    where
      kept : (t : Bool) → x ∈ keep p xs → x ∈ pick t (y ∷ keep p xs) (keep p xs)
      kept true k = there k
      kept false k = k

  pub keep_in : (p : A → Bool) {x : A} (xs : List A) → x ∈ keep p xs → (x ∈ xs) × (p x ≡ true)
  unfolding keep
  keep_in p [] m = absurd (in_empty m)
  keep_in p {x} (y ∷ xs) m = split (p y) refl (λ k. keep_in p xs k) m
    where
      first : p y ≡ true → (x ∈ keep p xs → (x ∈ xs) × (p x ≡ true)) → (x ≡ y) ⊎ (x ∈ keep p xs) → (x ∈ (y ∷ xs)) × (p x ≡ true)
      first e f (inl q) = (in_first q, rw q e)
      first e f (inr k) = (there (f k).0, (f k).1)

      split : (t : Bool) → p y ≡ t → (x ∈ keep p xs → (x ∈ xs) × (p x ≡ true)) → x ∈ pick t (y ∷ keep p xs) (keep p xs) → (x ∈ (y ∷ xs)) × (p x ≡ true)
      split true e f k = first e f (in_cases k)
      split false e f k = (there (f k).0, (f k).1)

module _ {A B : Type 0} (f : A → B) where
  pub in_map : {x : A} {xs : List A} → x ∈ xs → f x ∈ map f xs
  in_map here = here
  in_map (there m) = there (in_map m)

  pub map_in : {y : B} (xs : List A) → y ∈ map f xs → (x : A) × (x ∈ xs) × (f x ≡ y)
  map_in [] m = absurd (in_empty m)
  map_in {y} (x ∷ xs) m = split (λ k. map_in xs k) (in_cases m)
    where
      split : (y ∈ map f xs → (a : A) × (a ∈ xs) × (f a ≡ y)) → (y ≡ f x) ⊎ (y ∈ map f xs) → (a : A) × (a ∈ (x ∷ xs)) × (f a ≡ y)
      split g (inl e) = (x, here, sym e)
      split g (inr k) = let r = g k in (r.0, there r.1, r.2)

  -- a function that tells elements apart keeps each once
  pub once_map : ((x y : A) → f x ≡ f y → x ≡ y) → {xs : List A} → Once xs → Once (map f xs)
  once_map inj empty = empty
  once_map inj (also {x} {xs} h o) = also (λ m. let r = map_in xs m in h (subst (λ (a : A). a ∈ xs) (inj r.0 x r.2) r.1)) (once_map inj o)

-- the numbers of count_from are those from its start on
pub in_count_from : (start n o : ℕ) → start ≤ o → o < start + n → o ∈ count_from start n
unfolding count_from
in_count_from start zero o h k = absurd (omega arith)
in_count_from start (suc n) o h k = from (ℕ_discrete o start) (λ (l : start + 1 ≤ o). in_count_from (start + 1) n o l (omega arith))
  where
    from : Dec (o ≡ start) → (start + 1 ≤ o → o ∈ count_from (start + 1) n) → o ∈ (start ∷ count_from (start + 1) n)
    from (yes e) r = in_first e
    from (no e) r = there (r (omega arith))

pub count_from_in : (start n : ℕ) {o : ℕ} → o ∈ count_from start n → (start ≤ o) × (o < start + n)
unfolding count_from
count_from_in start zero m = absurd (in_empty m)
count_from_in start (suc n) {o} m = from (in_cases m) (λ k. count_from_in (start + 1) n k)
  where
    from : (o ≡ start) ⊎ (o ∈ count_from (start + 1) n) → (o ∈ count_from (start + 1) n → (start + 1 ≤ o) × (o < start + 1 + n)) → (start ≤ o) ×
        (o < start + suc n)
    from (inl e) r = (omega arith, omega arith)
    from (inr k) r = let q = r k in (omega (arith, q.0), omega (arith, q.1))
