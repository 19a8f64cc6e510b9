-- One step of each loop over names. Assumes nothing.
use mathlib.Core.Path.{◌≡◌, refl}
use mathlib.Core.Bool.{Bool, true, false, not, and-false}
use mathlib.Core.List.{List, [], ◌∷◌, map}
use Prim.Native.Nat.{ℕ, ◌+◌, ◌-◌, ◌<◌, ◌≤◌}
use native.Mathlib.Decide.{ℕ_discrete}
use native.Mathlib.Omega.{arith}
use lib.Dec.{eqb}
use lib.ListN.{length, take, drop, get_or, length-drop, drop_of_length-le}
use lib.Seq.{take_all, get_or-drop}
use borrow.Author.Tests.{eq-eqb, ne_eqb}
use Rattle.base.specs.Lists.{pick, all_of, pairwise, same}
use Rattle.base.specs.Le.{Bytes}
use Rattle.base.proofs.Tests.{same_test}
use Rattle.base.proofs.Orders.{same_refl, same_true}
use Rattle.base.proofs.Loops.{drop_next}
use Rattle.stakes_chain.specs.Chain.{Inside}
use Rattle.stakes_names.specs.Names.{name_at, padded, good_name, good_names}

-- ---- one name: two neighbouring bytes

padded_stop : (x y : ℕ) (xs : Bytes) → x ≡ 0 → (y ≡ 0 → ⊥) → padded (x ∷ y ∷ xs) ≡ false
unfolding padded all_of
padded_stop x y xs e k = rw (eq-eqb x 0 e, ne_eqb y 0 k)

padded_on : (x y : ℕ) (xs : Bytes) → (x ≡ 0 → y ≡ 0) → padded (x ∷ y ∷ xs) ≡ padded (y ∷ xs)
unfolding padded all_of
padded_on x y xs f = go (ℕ_discrete x 0)
  where
    go : Dec (x ≡ 0) → padded (x ∷ y ∷ xs) ≡ padded (y ∷ xs)
    go (yes e) = rw (eq-eqb x 0 e, eq-eqb y 0 (f e))
    go (no e) = rw (ne_eqb x 0 e)

pub name_zero : (n : Bytes) → get_or n 0 0 ≡ 0 → good_name n ≡ false
unfolding good_name
name_zero n e = rw (eq-eqb (get_or n 0 0) 0 e)

pub name_empty : (n : Bytes) → length n ≡ 0 → good_name n ≡ false
name_empty [] e = name_zero [] refl
name_empty (x ∷ n) e = absurd (omega arith)

pub name_first : (n : Bytes) → (get_or n 0 0 ≡ 0 → ⊥) → good_name n ≡ padded n
unfolding good_name
name_first n k = rw (ne_eqb (get_or n 0 0) 0 k)

module _ (n : Bytes) (i : ℕ) (low : 0 < i) (h : i < length n) where
  two : drop (i - 1) n ≡ get_or n (i - 1) 0 ∷ get_or n i 0 ∷ drop (i + 1) n
  two = let e : (i - 1) + 1 ≡ i = omega arith in rw (drop_next n (i - 1) (omega arith), e, drop_next n i h)

  pub name_stop : get_or n (i - 1) 0 ≡ 0 → (get_or n i 0 ≡ 0 → ⊥) → padded (drop (i - 1) n) ≡ false
  name_stop e k = rw two (padded_stop _ _ _ e k)

  pub name_on : (get_or n (i - 1) 0 ≡ 0 → get_or n i 0 ≡ 0) → padded (drop (i - 1) n) ≡ padded (drop i n)
  name_on f = rw (two, drop_next n i h) (padded_on _ _ _ f)

-- the last byte
pub name_last : (n : Bytes) (i : ℕ) → 0 < i → i ≡ length n → padded (drop (i - 1) n) ≡ true
unfolding padded all_of
name_last n i low e =
    let q : (i - 1) + 1 ≡ i = omega arith in
    rw (drop_next n (i - 1) (omega arith), q, drop_of_length-le n {i = i} (omega arith)) (go (eqb (get_or n (i - 1) 0) 0))
  where
    go : (t : Bool) → pick t true true ≡ true
    go true = refl
    go false = refl

-- ---- a name against those of records

pub same_names : (t : Bool) (m n : Bytes) → (t ≡ true → m ≡ n) → (m ≡ n → t ≡ true) → t ≡ same m n
same_names t m n f g = same_test t (same m n) (λ h. rw (f h) (same_refl n)) (λ h. g (same_true m n h))

module _ (f name : Bytes) (is : List ℕ) (k : ℕ) where
  abbrev unlike : List ℕ → Bool
  unlike js = all_of (λ n. not (same name n)) (map (name_at f) js)

  pub differs_end : length is ≤ k → unlike (drop k is) ≡ true
  unfolding all_of
  differs_end h = rw (drop_of_length-le is {i = k} h)

  pub differs_stop : k < length is → same name (name_at f (get_or is k 0)) ≡ true → unlike (drop k is) ≡ false
  unfolding all_of
  differs_stop h e = rw (drop_next is k h, e)

  pub differs_on : k < length is → same name (name_at f (get_or is k 0)) ≡ false → unlike (drop k is) ≡ unlike (drop (k + 1) is)
  unfolding all_of
  differs_on h e = rw (drop_next is k h, e)

-- ---- all names

-- the indexes from k on, as the code has them
pub later : (is : List ℕ) (k : ℕ) → take (length is - k) (drop k is) ≡ drop k is
later is k = take_all (length is - k) (drop k is) (simp length-drop (omega arith))

pub inside_later : (f : Bytes) (is : List ℕ) (k : ℕ) → k ≤ length is → Inside f is → Inside f (drop k is)
inside_later f is k l w =
    record {
      above = λ j h. rw get_or-drop (w.above (k + j) (in_range j h));
      below = λ j h. rw get_or-drop (w.below (k + j) (in_range j h));
    }
  where
    in_range : (j : ℕ) → j < length (drop k is) → k + j < length is
    in_range j h = let q = simp length-drop at h in omega arith

module _ (f : Bytes) (is : List ℕ) (k : ℕ) where
  abbrev good : List ℕ → Bool
  good js = good_names (map (name_at f) js)

  pub names_end : length is ≤ k → good (drop k is) ≡ true
  unfolding good_names all_of pairwise
  names_end h = rw (drop_of_length-le is {i = k} h)

  pub names_bad : k < length is → good_name (name_at f (get_or is k 0)) ≡ false → good (drop k is) ≡ false
  unfolding good_names all_of
  names_bad h e = rw (drop_next is k h, e)

  pub names_again : k < length is → good_name (name_at f (get_or is k 0)) ≡ true → all_of (λ n. not (same (name_at f (get_or is k 0)) n))
      (map (name_at f) (drop (k + 1) is)) ≡ false → good (drop k is) ≡ false
  unfolding good_names all_of pairwise
  names_again h e d = rw (drop_next is k h, e, d) (and-false (all_of good_name (map (name_at f) (drop (k + 1) is))))

  pub names_on : k < length is → good_name (name_at f (get_or is k 0)) ≡ true → all_of (λ n. not (same (name_at f (get_or is k 0)) n))
      (map (name_at f) (drop (k + 1) is)) ≡ true → good (drop k is) ≡ good (drop (k + 1) is)
  unfolding good_names all_of pairwise
  names_on h e d = rw (drop_next is k h, e, d)
