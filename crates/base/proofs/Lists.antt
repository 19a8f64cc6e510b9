-- Laws of lists that every crate's proofs use. Assumes nothing.
use mathlib.Core.Path.{◌≡◌, refl, ap, ap₂}
use mathlib.Core.List.{List, [], ◌∷◌, ◌++◌, map, flatten, append_assoc}
use mathlib.Core.Option.{Option, none, some, some-injective, none-ne-some}
use mathlib.Core.Bool.{Bool, true, false, ◌||◌}
use Prim.Native.Nat.{ℕ, zero, suc, ◌+◌, ◌≤◌, ◌<◌}
use native.Mathlib.Nat.{zero-add, suc-add}
use native.Mathlib.Omega.{arith}
use native.Mathlib.Decide.{dec_lt}
use lib.ListN.{length, get_or, get_elem?, replicate, length-append, length-replicate, get_or-replicate, get_or-eq_default}
use Rattle.base.proofs.Tests.{not_both, and_left, and_right}
use Rattle.base.specs.Lists.{pick, any_of, all_of, pairwise, keep, find, holds, is_empty, count_from, ◌∈◌, here, there}

module _ {A : Type 0} where
  pub is_empty_true : (s : List A) → is_empty s ≡ true → s ≡ []
  unfolding is_empty
  is_empty_true [] h = refl
  is_empty_true (x ∷ s) h = absurd (not_both h refl)

  pub is_empty_false : (s : List A) → 0 < length s → is_empty s ≡ false
  unfolding is_empty
  is_empty_false [] h = absurd (omega arith)
  is_empty_false (x ∷ s) h = refl

-- what holds of every element
pub data Every {A : Type 0} (P : A → Type 0) : List A → Type 0 where
  none_of : Every P []
  and : {x : A} {xs : List A} → P x → Every P xs → Every P (x ∷ xs)

-- what holds of every element with every later one
pub data Pairs {A : Type 0} (R : A → A → Type 0) : List A → Type 0 where
  no_pairs : Pairs R []
  with_later : {x : A} {xs : List A} → Every (R x) xs → Pairs R xs → Pairs R (x ∷ xs)

pub every : {A : Type 0} {P Q : A → Type 0} → ((a : A) → P a → Q a) → (xs : List A) → Every P xs → Every Q xs
every f [] none_of = none_of
every f (x ∷ xs) (and h hs) = and (f x h) (every f xs hs)

pub every_one : {A : Type 0} {P : A → Type 0} → ((a : A) → P a) → (xs : List A) → Every P xs
every_one f [] = none_of
every_one f (x ∷ xs) = and (f x) (every_one f xs)

module _ {A : Type 0} where
  -- the test `all`, as Every
  pub all_every : (p : A → Bool) (xs : List A) → all_of p xs ≡ true → Every (λ x. p x ≡ true) xs
  unfolding all_of
  all_every p [] h = none_of
  all_every p (x ∷ xs) h = and (and_left (p x) (all_of p xs) h) (all_every p xs (and_right (p x) (all_of p xs) h))

  pub every_all : (p : A → Bool) (xs : List A) → Every (λ x. p x ≡ true) xs → all_of p xs ≡ true
  unfolding all_of
  every_all p [] none_of = refl
  every_all p (x ∷ xs) (and h hs) = rw h (every_all p xs hs)

  -- the test of two lists, one after the other
  pub all_left : (p : A → Bool) (xs ys : List A) → all_of p (xs ++ ys) ≡ true → all_of p xs ≡ true
  unfolding all_of
  all_left p [] ys h = refl
  all_left p (x ∷ xs) ys h = rw (and_left (p x) (all_of p (xs ++ ys)) h) (all_left p xs ys (and_right (p x) (all_of p (xs ++ ys)) h))

  pub all_right : (p : A → Bool) (xs ys : List A) → all_of p (xs ++ ys) ≡ true → all_of p ys ≡ true
  unfolding all_of
  all_right p [] ys h = h
  all_right p (x ∷ xs) ys h = all_right p xs ys (and_right (p x) (all_of p (xs ++ ys)) h)

  -- the test `pairwise`, as Pairs
  pub pairwise_pairs : (p : A → A → Bool) (xs : List A) → pairwise p xs ≡ true → Pairs (λ x y. p x y ≡ true) xs
  unfolding pairwise
  pairwise_pairs p [] h = no_pairs
  pairwise_pairs p (x ∷ xs) h = with_later (all_every (p x) xs (and_left (all_of (p x) xs) (pairwise p xs) h))
      (pairwise_pairs p xs (and_right (all_of (p x) xs) (pairwise p xs) h))

  pub pairs_pairwise : (p : A → A → Bool) (xs : List A) → Pairs (λ x y. p x y ≡ true) xs → pairwise p xs ≡ true
  unfolding pairwise
  pairs_pairwise p [] no_pairs = refl
  pairs_pairwise p (x ∷ xs) (with_later h hs) = rw (every_all (p x) xs h) (pairs_pairwise p xs hs)

  module _ {P : A → Type 0} where
    pub every_append : (xs ys : List A) → Every P xs → Every P ys → Every P (xs ++ ys)
    every_append [] ys none_of k = k
    every_append (x ∷ xs) ys (and h hs) k = and h (every_append xs ys hs k)

    pub every_keep : (p : A → Bool) (xs : List A) → Every P xs → Every P (keep p xs)
    unfolding keep
    every_keep p [] none_of = none_of
    every_keep p (x ∷ xs) (and h hs) = go (p x) (every_keep p xs hs)
      where
        go : (t : Bool) → Every P (keep p xs) → Every P (pick t (x ∷ keep p xs) (keep p xs))
        go true k = and h k
        go false k = k

  module _ {R : A → A → Type 0} where
    pub pairs_append : (xs ys : List A) → Pairs R xs → Pairs R ys → Every (λ x. Every (R x) ys) xs → Pairs R (xs ++ ys)
    pairs_append [] ys no_pairs k e = k
    pairs_append (x ∷ xs) ys (with_later h hs) k (and e es) = with_later (every_append xs ys h e) (pairs_append xs ys hs k es)

    pub pairs_keep : (p : A → Bool) (xs : List A) → Pairs R xs → Pairs R (keep p xs)
    unfolding keep
    pairs_keep p [] no_pairs = no_pairs
    pairs_keep p (x ∷ xs) (with_later h hs) = go (p x) (pairs_keep p xs hs)
      where
        go : (t : Bool) → Pairs R (keep p xs) → Pairs R (pick t (x ∷ keep p xs) (keep p xs))
        go true k = with_later (every_keep p xs h) k
        go false k = k

module _ {A B : Type 0} {P : A → Type 0} {Q : B → Type 0} where
  pub every_map : (f : A → B) → ((x : A) → P x → Q (f x)) → (xs : List A) → Every P xs → Every Q (map f xs)
  every_map f g [] none_of = none_of
  every_map f g (x ∷ xs) (and h hs) = and (g x h) (every_map f g xs hs)

  pub every_flatten : (f : A → List B) → ((x : A) → P x → Every Q (f x)) → (xs : List A) → Every P xs → Every Q (flatten (map f xs))
  unfolding flatten
  every_flatten f g [] none_of = none_of
  every_flatten f g (x ∷ xs) (and h hs) = every_append (f x) (flatten (map f xs)) (g x h) (every_flatten f g xs hs)

module _ {A B : Type 0} {R : A → A → Type 0} {S : B → B → Type 0} where
  pub pairs_map : (f : A → B) → ((x y : A) → R x y → S (f x) (f y)) → (xs : List A) → Pairs R xs → Pairs S (map f xs)
  pairs_map f g [] no_pairs = no_pairs
  pairs_map f g (x ∷ xs) (with_later h hs) = with_later (every_map f (g x) xs h) (pairs_map f g xs hs)

  -- each element gives way to several, ordered among themselves and towards those of the others
  pub pairs_flatten : (f : A → List B) → ((x : A) → Pairs S (f x)) → ((x y : A) → R x y → Every (λ a. Every (S a) (f y)) (f x))
      → (xs : List A) → Pairs R xs → Pairs S (flatten (map f xs))
  unfolding flatten
  pairs_flatten f own g [] no_pairs = no_pairs
  pairs_flatten f own g (x ∷ xs) (with_later h hs) =
      pairs_append (f x) (flatten (map f xs)) (own x) (pairs_flatten f own g xs hs) (swapped (f x) xs (every (g x) xs h))
    where
      swapped : (as' : List B) (ys : List A) → Every (λ y. Every (λ a. Every (S a) (f y)) as') ys → Every (λ a. Every (S a) (flatten (map f ys))) as'
      swapped [] ys k = none_of
      swapped (a ∷ as') ys k = and (every_flatten f (λ y e. e) ys (every (λ y e. first e) ys k)) (swapped as' ys (every (λ y e. others e) ys k))
        where
          first : {y : A} → Every (λ b. Every (S b) (f y)) (a ∷ as') → Every (S a) (f y)
          first (and e es) = e

          others : {y : A} → Every (λ b. Every (S b) (f y)) (a ∷ as') → Every (λ b. Every (S b) (f y)) as'
          others (and e es) = es

module _ {A : Type 0} {Q : A → Type 0} where
  -- what holds of the elements that pass a test
  pub keep_every : (p : A → Bool) (xs : List A) → Every Q (keep p xs) → Every (λ x. p x ≡ true → Q x) xs
  unfolding keep
  keep_every p [] h = none_of
  keep_every p (x ∷ xs) h = and (first (p x) h) (keep_every p xs (others (p x) h))
    where
      others : (t : Bool) → Every Q (pick t (x ∷ keep p xs) (keep p xs)) → Every Q (keep p xs)
      others true (and q qs) = qs
      others false qs = qs

      first : (t : Bool) → Every Q (pick t (x ∷ keep p xs) (keep p xs)) → t ≡ true → Q x
      first true (and q qs) e = q
      first false qs e = absurd (not_both e refl)

  pub every_kept : (p : A → Bool) (xs : List A) → Every (λ x. p x ≡ true → Q x) xs → Every Q (keep p xs)
  unfolding keep
  every_kept p [] none_of = none_of
  every_kept p (x ∷ xs) (and h hs) = go (p x) refl (every_kept p xs hs)
    where
      go : (t : Bool) → p x ≡ t → Every Q (keep p xs) → Every Q (pick t (x ∷ keep p xs) (keep p xs))
      go true e k = and (h e) k
      go false e k = k

module _ {P : ℕ → Type 0} where
  -- what holds of the numbers of a range
  pub count_from_every : (i n : ℕ) → Every P (count_from i n) → (o : ℕ) → i ≤ o → o < i + n → P o
  unfolding count_from
  count_from_every i zero h o l k = absurd (omega arith)
  count_from_every i (suc n) (and h hs) o l k = go (dec_lt i o) (λ (m : i < o). count_from_every (i + 1) n hs o (omega arith) (omega arith))
    where
      go : Dec (i < o) → (i < o → P o) → P o
      go (yes m) ih = ih m
      go (no m) ih = let e : o ≡ i = omega arith in rw e h

  pub every_count_from : (i n : ℕ) → ((o : ℕ) → i ≤ o → o < i + n → P o) → Every P (count_from i n)
  unfolding count_from
  every_count_from i zero f = none_of
  every_count_from i (suc n) f = and (f i (omega arith) (omega arith))
      (every_count_from (i + 1) n (λ o (l : i + 1 ≤ o) (k : o < i + 1 + n). f o (omega arith) (omega arith)))

module _ {A : Type 0} where
  -- what is found passes the test, and is one of the elements
  pub find_passes : (p : A → Bool) (xs : List A) (a : A) → find p xs ≡ some a → p a ≡ true
  unfolding find
  find_passes p [] a h = absurd (none-ne-some a h)
  find_passes p (x ∷ xs) a h = go (p x) refl h (find_passes p xs a)
    where
      go : (t : Bool) → p x ≡ t → pick t (some x) (find p xs) ≡ some a → (find p xs ≡ some a → p a ≡ true) → p a ≡ true
      go true e k ih = rw (← some-injective _ _ k) e
      go false e k ih = ih k

  pub find_every : {P : A → Type 0} (p : A → Bool) (xs : List A) (a : A) → find p xs ≡ some a → Every P xs → P a
  unfolding find
  find_every p [] a h none_of = absurd (none-ne-some a h)
  find_every {P} p (x ∷ xs) a h (and q qs) = go (p x) h (λ k. find_every p xs a k qs)
    where
      go : (t : Bool) → pick t (some x) (find p xs) ≡ some a → (find p xs ≡ some a → P a) → P a
      go true k ih = rw (← some-injective _ _ k) q
      go false k ih = ih k

  pub find_in : (p : A → Bool) (xs : List A) (a : A) → find p xs ≡ some a → a ∈ xs
  unfolding find
  find_in p [] a h = absurd (none-ne-some a h)
  find_in p (x ∷ xs) a h = go (p x) h (find_in p xs a)
    where
      go : (t : Bool) → pick t (some x) (find p xs) ≡ some a → (find p xs ≡ some a → a ∈ xs) → a ∈ (x ∷ xs)
      go true k ih = rw (← some-injective _ _ k) here
      go false k ih = there (ih k)

  pub every_in : {P : A → Type 0} (xs : List A) (a : A) → Every P xs → a ∈ xs → P a
  every_in {P = P} [] a _ x3 = elim x3 [ ]
  every_in (x ∷ xs) a (and h hs) here = h
  every_in (x ∷ xs) a (and h hs) (there m) = every_in xs a hs m

  -- the test holds of what was found
  pub holds_some : (p : A → Bool) (o : Option A) → holds p o ≡ true → (a : A) × (o ≡ some a) × (p a ≡ true)
  unfolding holds
  holds_some p none h = absurd (not_both h refl)
  holds_some p (some a) h = (a, refl, h)

  pub length_keep : (p : A → Bool) (xs : List A) → length (keep p xs) ≤ length xs
  unfolding keep
  length_keep p [] = omega arith
  length_keep p (x ∷ xs) = go (p x) (length_keep p xs)
    where
      go : (t : Bool) → length (keep p xs) ≤ length xs → length (pick t (x ∷ keep p xs) (keep p xs)) ≤ suc (length xs)
      go true h = omega arith
      go false h = omega arith

-- at most one for each element
pub length_flatten : {A B : Type 0} (f : A → List B) → ((a : A) → length (f a) ≤ 1) → (xs : List A) → length (flatten (map f xs)) ≤ length xs
unfolding flatten
length_flatten f h [] = omega arith
length_flatten f h (x ∷ xs) = omega (arith, length-append (f x) (flatten (map f xs)), h x, length_flatten f h xs)

pub length_count_from : (i n : ℕ) → length (count_from i n) ≡ n
unfolding count_from
length_count_from i zero = refl
length_count_from i (suc n) = ap suc (length_count_from (i + 1) n)

pub count_from_add : (i m n : ℕ) → count_from i (m + n) ≡ count_from i m ++ count_from (i + m) n
unfolding count_from
count_from_add i zero n = let e : i + 0 ≡ i = omega arith in rw (zero-add, e)
count_from_add i (suc m) n =
    let e : i + 1 + m ≡ i + suc m = omega arith in
    rw (suc-add) (ap {B = List ℕ} (λ l. i ∷ l) (rw e at (count_from_add (i + 1) m n)))

pub keep_append : {A : Type 0} (p : A → Bool) (xs ys : List A) → keep p (xs ++ ys) ≡ keep p xs ++ keep p ys
unfolding keep
keep_append p [] ys = refl
keep_append {A} p (x ∷ xs) ys = each (p x) (keep_append p xs ys)
  where
    each : (t : Bool) → keep p (xs ++ ys) ≡ keep p xs ++ keep p ys
        → pick t (x ∷ keep p (xs ++ ys)) (keep p (xs ++ ys)) ≡ pick t (x ∷ keep p xs) (keep p xs) ++ keep p ys
    each true e = ap {B = List A} (λ l. x ∷ l) e
    each false e = e

-- ---- of lists of lists, and of what holds at each element

pub flatten_append : {A : Type 0} (xss yss : List (List A)) → flatten (xss ++ yss) ≡ flatten xss ++ flatten yss
unfolding flatten
flatten_append [] yss = refl
flatten_append (xs ∷ xss) yss = rw (flatten_append xss yss, append_assoc)

pub any_append : {A : Type 0} (p : A → Bool) (xs ys : List A) → any_of p (xs ++ ys) ≡ any_of p xs || any_of p ys
unfolding any_of
any_append p [] ys = refl
any_append p (x ∷ xs) ys = go (p x) (any_append p xs ys)
  where
    go : (t : Bool) → any_of p (xs ++ ys) ≡ any_of p xs || any_of p ys → t || any_of p (xs ++ ys) ≡ (t || any_of p xs) || any_of p ys
    go true h = refl
    go false h = h

pub keep_same : {A : Type 0} (p q : A → Bool) (xs : List A) → ((x : A) → x ∈ xs → p x ≡ q x) → keep p xs ≡ keep q xs
unfolding keep
keep_same p q [] h = refl
keep_same p q (x ∷ xs) h = rw (h x here, keep_same p q xs (λ y m. h y (there m)))

pub map_same : {A B : Type 0} (f g : A → B) (xs : List A) → ((x : A) → x ∈ xs → f x ≡ g x) → map f xs ≡ map g xs
map_same f g [] h = refl
map_same {B = B} f g (x ∷ xs) h = ap₂ {C = List B} (λ y ys. y ∷ ys) (h x here) (map_same f g xs (λ y m. h y (there m)))

pub element_at : {A : Type 0} (xs : List A) (i : ℕ) (d : A) → i < length xs → get_elem? xs i ≡ some (get_or xs i d)
element_at [] i d h = absurd (omega arith)
element_at (x ∷ xs) zero d h = refl
element_at (x ∷ xs) (suc i) d h = element_at xs i d (omega arith)

-- zeros, and past them the 0 that stands for nothing
pub zeros_at : (n k : ℕ) → get_or (replicate {A = ℕ} n 0) k 0 ≡ 0
zeros_at n k = go (dec_lt k n)
  where
    go : Dec (k < n) → get_or (replicate {A = ℕ} n 0) k 0 ≡ 0
    go (yes h) = get_or-replicate {A = ℕ} n k 0 0 h
    go (no h) = get_or-eq_default (replicate {A = ℕ} n 0) 0 (omega (arith, length-replicate {A = ℕ} n 0))
