-- The elements of which a test holds, and lists up to quorum. Assumes nothing.
use mathlib.Core.Path.{◌≡◌, refl, sym, ap, ◌∙◌, subst}
use mathlib.Core.Logic.{◌⊎◌, inl, inr}
use mathlib.Core.Bool.{Bool, true, false, true≢false, ◌&&◌, ◌||◌}
use mathlib.Core.List.{List, [], ◌∷◌}
use Prim.Native.Nat.{ℕ, zero, suc, ◌+◌, ◌≤◌, ◌<◌}
use native.Mathlib.Omega.{arith}
use lib.Dec.{eqb}
use lib.ListN.{length, take}
use borrow.Author.Tests.{eqb-true, eq-eqb}
use Rattle.base.specs.Lists.{pick, keep, count_from, ◌∈◌, here, there, Once, also}
use Rattle.base.proofs.Tests.{fails, not_both}
use Rattle.base.proofs.Members.{in_empty, in_cases, any_in, in_any}
use Rattle.committee.specs.Committee.{AuthorityIndex, Stake, Committee, is_quorum, get_stake}
use Rattle.committee_set.specs.AuthoritySet.{member, set_of}
use Rattle.committee_set.proofs.Stakes.{weigh}
use Rattle.committee_set.proofs.Votes.{member_set_of}
use Rattle.committee_set.proofs.Words.{Small, small_nobody, small_inserted}
use Rattle.ring_owners.specs.Ranked.{until_quorum}
use Rattle.ring_owners.proofs.Totals.{total}
use Rattle.ring_owners.proofs.Weights.{Ascends, none_left, next_up}

-- a stronger test after a weaker one
pub keep_keep : (p q : ℕ → Bool) (xs : List ℕ) → ((a : ℕ) → p a ≡ true → q a ≡ true) → keep p (keep q xs) ≡ keep p xs
unfolding keep
keep_keep p q [] f = refl
keep_keep p q (x ∷ xs) f = go (q x) refl (keep_keep p q xs f)
  where
    go : (u : Bool) → q x ≡ u → keep p (keep q xs) ≡ keep p xs → keep p (pick u (x ∷ keep q xs) (keep q xs)) ≡ pick (p x) (x ∷ keep p xs) (keep p xs)
    go true e ih = rw ih
    go false e ih = rw (fails (p x) (λ h. not_both (f x h) e)) ih

-- two tests, one after the other
pub keep_both : (p q : ℕ → Bool) (xs : List ℕ) → keep p (keep q xs) ≡ keep (λ a. q a && p a) xs
unfolding keep
keep_both p q [] = refl
keep_both p q (x ∷ xs) = go (q x) (keep_both p q xs)
  where
    go : (u : Bool) → keep p (keep q xs) ≡ keep (λ a. q a && p a) xs
        → keep p (pick u (x ∷ keep q xs) (keep q xs)) ≡ pick (u && p x) (x ∷ keep (λ a. q a && p a) xs) (keep (λ a. q a && p a) xs)
    go true ih = rw ih
    go false ih = ih

-- tests that agree on the elements
pub keep_same : (p q : ℕ → Bool) (xs : List ℕ) → ((a : ℕ) → a ∈ xs → p a ≡ q a) → keep p xs ≡ keep q xs
unfolding keep
keep_same p q [] f = refl
keep_same p q (x ∷ xs) f = rw (f x here, keep_same p q xs (λ a m. f a (there m)))

pub keep_all : (p : ℕ → Bool) (xs : List ℕ) → ((a : ℕ) → a ∈ xs → p a ≡ true) → keep p xs ≡ xs
unfolding keep
keep_all p [] f = refl
keep_all p (x ∷ xs) f = rw (f x here, keep_all p xs (λ a m. f a (there m)))

pub keep_none : (p : ℕ → Bool) (xs : List ℕ) → ((a : ℕ) → a ∈ xs → p a ≡ false) → keep p xs ≡ []
unfolding keep
keep_none p [] f = refl
keep_none p (x ∷ xs) f = rw (f x here) (keep_none p xs (λ a m. f a (there m)))

-- the first k are kept where the test holds of these alone
pub keep_front : (p : ℕ → Bool) (k : ℕ) (xs : List ℕ) → Once xs → ((a : ℕ) → a ∈ xs → p a ≡ true → a ∈ take k xs) → ((a : ℕ) → a ∈ take k xs → p a ≡ true) →
    keep p xs ≡ take k xs
unfolding keep
keep_front p zero xs o f g = keep_none p xs (λ a m. fails (p a) (λ h. in_empty (f a m h)))
keep_front p (suc k) [] o f g = refl
keep_front p (suc k) (x ∷ xs) (also n o) f g = rw (g x here)
    (ap {B = List ℕ} (λ l. x ∷ l) (keep_front p k xs o (λ a m h. other a m (in_cases (f a (there m) h))) (λ a m. g a (there m))))
  where
    other : (a : ℕ) → a ∈ xs → (a ≡ x) ⊎ (a ∈ take k xs) → a ∈ take k xs
    other a m (inl e) = absurd (n (subst (λ (b : ℕ). b ∈ xs) e m))
    other a m (inr k) = k

pub take_in : (k : ℕ) (xs : List ℕ) {a : ℕ} → a ∈ take k xs → a ∈ xs
take_in zero xs m = absurd (in_empty m)
take_in (suc k) [] m = m
take_in (suc k) (x ∷ xs) here = here
take_in (suc k) (x ∷ xs) (there m) = there (take_in k xs m)

pub take_length : (k : ℕ) (xs : List ℕ) → k ≤ length xs → length (take k xs) ≡ k
take_length zero xs h = refl
take_length (suc k) [] h = absurd (omega arith)
take_length (suc k) (x ∷ xs) h = ap suc (take_length k xs (omega arith))

-- the set of a list
pub set_in : (xs : List ℕ) (a : ℕ) → member (set_of xs) a ≡ true → a ∈ xs
set_in xs a h =
    let r = any_in (eqb a) xs (sym (member_set_of xs a) ∙ h) in
    subst (λ (b : ℕ). b ∈ xs) (sym (eqb-true a r.0 r.2)) r.1

pub in_set : (xs : List ℕ) (a : ℕ) → a ∈ xs → member (set_of xs) a ≡ true
in_set xs a m = member_set_of xs a ∙ in_any (eqb a) m (eq-eqb a a refl)

pub small_set : (xs : List ℕ) → ((a : ℕ) → a ∈ xs → a < 128) → Small (set_of xs)
unfolding set_of
small_set [] f = small_nobody
small_set (x ∷ xs) f = small_inserted (set_of xs) x (f x here) (small_set xs (λ a m. f a (there m)))

-- what is kept of the numbers from i on ascends
ascends_less : (i : ℕ) (xs : List ℕ) → Ascends (i + 1) xs → Ascends i xs
ascends_less i [] none_left = none_left
ascends_less i (x ∷ xs) (next_up h l k) = next_up {y = i} {a = x} (omega arith) l k

pub kept_ascends : (p : ℕ → Bool) (i n : ℕ) → i + n ≤ 128 → Ascends i (keep p (count_from i n))
unfolding keep count_from
kept_ascends p i zero h = none_left
kept_ascends p i (suc n) h = go (p i) (kept_ascends p (i + 1) n (omega arith))
  where
    go : (t : Bool) → Ascends (i + 1) (keep p (count_from (i + 1) n)) → Ascends i (pick t (i ∷ keep p (count_from (i + 1) n)) (keep p (count_from (i + 1) n)))
    go true k = next_up {y = i} {a = i} (omega arith) (omega arith) k
    go false k = ascends_less i _ k

-- the first up to quorum: some k of them, fewer are not enough, and they are where all are
pub record Until (c : Committee) (s : Stake) (xs ys : List AuthorityIndex) : Type 0 where
  pub k : ℕ
  pub inside : k ≤ length xs
  pub are : ys ≡ take k xs
  pub short : (m : ℕ) → m < k → is_quorum c (s + total (get_stake c) (take m xs)) ≡ false
  pub enough : is_quorum c (s + total (get_stake c) xs) ≡ true → is_quorum c (s + total (get_stake c) (take k xs)) ≡ true

pub until : (c : Committee) (s : Stake) (xs : List AuthorityIndex) → Until c s xs (until_quorum c s xs)
unfolding until_quorum total
until c s [] = record { k = 0; inside = omega arith; are = refl; short = λ m h. absurd (omega arith); enough = λ h. h }
until c s (x ∷ xs) = go (is_quorum c s) refl (until c (s + get_stake c x) xs)
  where
    bare : s + 0 ≡ s
    bare = omega arith

    go : (t : Bool) → is_quorum c s ≡ t → Until c (s + get_stake c x) xs (until_quorum c (s + get_stake c x) xs)
        → Until c s (x ∷ xs) (pick t [] (x ∷ until_quorum c (s + get_stake c x) xs))
    go true e u = record { k = 0; inside = omega arith; are = refl; short = λ m h. absurd (omega arith); enough = λ h. rw bare e }
    go false e u =
        record {
          k = suc u.k;
          inside = omega (arith, u.inside);
          are = ap {B = List ℕ} (λ l. x ∷ l) u.are;
          short = λ m h. fewer m h;
          enough = λ h. rw (step (take u.k xs)) (u.enough (rw (← step xs) h));
        }
      where
        step : (ys : List ℕ) → s + (get_stake c x + total (get_stake c) ys) ≡ s + get_stake c x + total (get_stake c) ys
        step ys = omega arith

        fewer : (m : ℕ) → m < suc u.k → is_quorum c (s + total (get_stake c) (take m (x ∷ xs))) ≡ false
        fewer zero h = rw bare e
        fewer (suc m) h = rw (step (take m xs)) (u.short m (omega arith))

-- groups that have nobody in common
pub weigh_apart : (p q : AuthorityIndex → Bool) (c : Committee) → ((a : AuthorityIndex) → p a ≡ true → q a ≡ false) → weigh p c + weigh q c ≡ weigh
    (λ a. p a || q a) c
unfolding weigh
weigh_apart p q [] f = omega arith
weigh_apart p q (s ∷ c) f = go (p 0) (q 0) (f 0) (weigh_apart (λ a. p (suc a)) (λ a. q (suc a)) c (λ a. f (suc a)))
  where
    go : (t u : Bool) → (t ≡ true → u ≡ false) → weigh (λ a. p (suc a)) c + weigh (λ a. q (suc a)) c ≡ weigh (λ a. p (suc a) || q (suc a)) c
        → pick t s 0 + weigh (λ a. p (suc a)) c + (pick u s 0 + weigh (λ a. q (suc a)) c) ≡ pick (t || u) s 0 + weigh (λ a. p (suc a) || q (suc a)) c
    go true true h e = absurd (true≢false (h refl))
    go true false h e = omega arith
    go false true h e = omega arith
    go false false h e = omega arith
