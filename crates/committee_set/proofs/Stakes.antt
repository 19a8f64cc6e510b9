-- The stake of those authors of whom a test holds. Assumes nothing.
use mathlib.Core.Path.{◌≡◌, refl, sym, ap, ◌∙◌, subst}
use mathlib.Core.Logic.{◌⊎◌, inl, inr}
use mathlib.Core.Bool.{Bool, true, false, not, ◌&&◌, ◌||◌, or-false}
use mathlib.Core.List.{List, [], ◌∷◌, map}
use Prim.Native.Nat.{ℕ, zero, suc, ◌+◌, ◌≤◌, ◌<◌}
use native.Mathlib.Nat.{suc_inj}
use native.Mathlib.Omega.{arith}
use native.Mathlib.Decide.{dec_lt}
use lib.Dec.{eqb, eqb-suc-suc}
use lib.ListN.{length, get_or, get_or-eq_default}
use borrow.Author.Tests.{ne_eqb}
use Rattle.base.specs.Lists.{pick, sum_of, ◌∈◌, here, there, Once, empty, also}
use Rattle.base.proofs.Tests.{and_left}
use Rattle.base.proofs.Members.{in_empty, in_cases, map_in, in_map, once_map}
use Rattle.committee.specs.Committee.{AuthorityIndex, Stake, Committee, get_stake}
use Rattle.committee_set.specs.AuthoritySet.{AuthoritySet, member, stake_from, stake_of}

-- the stakes of the authors of whom the test holds, each once
unfoldable pub weigh : (AuthorityIndex → Bool) → Committee → Stake
weigh p [] = 0
weigh p (s ∷ c) = pick (p 0) s 0 + weigh (λ a. p (suc a)) c

-- more authors have no less stake
pub weigh_mono : (p q : AuthorityIndex → Bool) (c : Committee) → ((a : AuthorityIndex) → a < length c → p a ≡ true → q a ≡ true) → weigh p c ≤ weigh q c
unfolding weigh
weigh_mono p q [] h = omega arith
weigh_mono p q (s ∷ c) h = split (p 0) (q 0) (h 0 (omega arith)) (weigh_mono (λ a. p (suc a)) (λ a. q (suc a)) c (λ a k. h (suc a) (omega arith)))
  where
    split : (t u : Bool) → (t ≡ true → u ≡ true) → weigh (λ a. p (suc a)) c ≤ weigh (λ a. q (suc a)) c → pick t s 0 + weigh (λ a. p (suc a)) c ≤ pick u s 0 +
        weigh (λ a. q (suc a)) c
    split true u f k = rw (f refl) (omega arith)
    split false true f k = omega arith
    split false false f k = omega arith

-- the stake depends on the known authors alone
pub weigh_same : (p q : AuthorityIndex → Bool) (c : Committee) → ((a : AuthorityIndex) → a < length c → p a ≡ q a) → weigh p c ≡ weigh q c
weigh_same p q c h = omega (arith, weigh_mono p q c (λ a k e. sym (h a k) ∙ e), weigh_mono q p c (λ a k e. h a k ∙ e))

-- what two groups have in common lacks at most the total from both
pub weigh_meet : (p q : AuthorityIndex → Bool) (c : Committee) → weigh p c + weigh q c ≤ sum_of c + weigh (λ a. p a && q a) c
unfolding weigh sum_of
weigh_meet p q [] = omega arith
weigh_meet p q (s ∷ c) = split (p 0) (q 0) (weigh_meet (λ a. p (suc a)) (λ a. q (suc a)) c)
  where
    split : (t u : Bool) → weigh (λ a. p (suc a)) c + weigh (λ a. q (suc a)) c ≤ sum_of c + weigh (λ a. p (suc a) && q (suc a)) c
        → pick t s 0 + weigh (λ a. p (suc a)) c + (pick u s 0 + weigh (λ a. q (suc a)) c) ≤ s + sum_of c +
        (pick (t && u) s 0 + weigh (λ a. p (suc a) && q (suc a)) c)
    split true true k = omega arith
    split true false k = omega arith
    split false true k = omega arith
    split false false k = omega arith

-- the stake of a set is that of its members
pub stake_from_lem : (k : AuthorityIndex) (c : Committee) (v : AuthoritySet) → stake_from k c v ≡ weigh (λ a. member v (k + a)) c
unfolding stake_from weigh
stake_from_lem k [] v = refl
stake_from_lem k (s ∷ c) v =
    let z : k + 0 ≡ k = omega arith in
    let next : weigh (λ a. member v (k + 1 + a)) c ≡ weigh (λ a. member v (k + suc a)) c = weigh_same _ _ c (λ a h. ap (member v) (omega arith)) in
    rw (z, stake_from_lem (k + 1) c v, next)

pub stake_of_lem : (c : Committee) (v : AuthoritySet) → stake_of c v ≡ weigh (member v) c
unfolding stake_of
stake_of_lem c v = stake_from_lem 0 c v ∙ weigh_same _ _ c (λ a h. ap (member v) (omega arith))

-- all but one author
without : AuthorityIndex → (AuthorityIndex → Bool) → AuthorityIndex → Bool
without x p a = p a && not (eqb a x)

weigh_without : (p : AuthorityIndex → Bool) (x : AuthorityIndex) (c : Committee) → p x ≡ true → get_or c x 0 + weigh (without x p) c ≤ weigh p c
unfolding weigh without
weigh_without p x [] h = omega arith
weigh_without p zero (s ∷ c) h = rw h (omega (arith, weigh_mono (λ a. without 0 p (suc a)) (λ a. p (suc a)) c (λ a k e. and_left (p (suc a)) _ e)))
weigh_without p (suc x) (s ∷ c) h = omega (arith, part (p 0) (not (eqb 0 (suc x))), rest, weigh_without (λ a. p (suc a)) x c h)
  where
    part : (t u : Bool) → pick (t && u) s 0 ≤ pick t s 0
    part true true = omega arith
    part true false = omega arith
    part false u = omega arith

    rest : weigh (λ a. without (suc x) p (suc a)) c ≡ weigh (without x (λ a. p (suc a))) c
    rest = weigh_same _ _ c (λ a k. rw (eqb-suc-suc a x))

-- authors each once, the known ones among them in a group, have no more stake than the group
pub owners_weigh : (c : Committee) {os : List AuthorityIndex} → Once os → (p : AuthorityIndex → Bool) →
    ((a : AuthorityIndex) → a ∈ os → a < length c → p a ≡ true)
    → sum_of (map (get_stake c) os) ≤ weigh p c
unfolding sum_of get_stake
owners_weigh c empty p h = omega arith
owners_weigh c (also {x} {xs = os} f o) p h = split (dec_lt x (length c)) (λ q k. owners_weigh c o q k)
  where
    left : (a : AuthorityIndex) → a ∈ os → a < length c → p a ≡ true → without x p a ≡ true
    left a m k e = unfold without in rw (e, ne_eqb a x (λ q. f (subst (λ (b : AuthorityIndex). b ∈ os) q m)))

    split : Dec (x < length c) → ((q : AuthorityIndex → Bool) → ((a : AuthorityIndex) → a ∈ os → a < length c → q a ≡ true) → sum_of (map (get_stake c) os) ≤
        weigh q c) → get_or c x 0 + sum_of (map (get_stake c) os) ≤ weigh p c
    split (yes k) ih = omega (arith, ih (without x p) (λ a m l. left a m l (h a (there m) l)), weigh_without p x c (h x here k))
    split (no k) ih =
        let none_of : get_or c x 0 ≡ 0 = get_or-eq_default c 0 (omega arith) in
        omega (arith, none_of, ih p (λ a m l. h a (there m) l))

-- the known authors of whom the test holds, each once
unfoldable pub chosen : (AuthorityIndex → Bool) → Committee → List AuthorityIndex
chosen p [] = []
chosen p (s ∷ c) = pick (p 0) (0 ∷ map suc (chosen (λ a. p (suc a)) c)) (map suc (chosen (λ a. p (suc a)) c))

shifted : (s : Stake) (c : Committee) (os : List AuthorityIndex) → sum_of (map (get_stake (s ∷ c)) (map suc os)) ≡ sum_of (map (get_stake c) os)
unfolding sum_of get_stake
shifted s c [] = refl
shifted s c (o ∷ os) = ap (λ (n : ℕ). get_or c o 0 + n) (shifted s c os)

-- their stakes sum to the group's
pub chosen_sum : (p : AuthorityIndex → Bool) (c : Committee) → sum_of (map (get_stake c) (chosen p c)) ≡ weigh p c
unfolding chosen weigh sum_of get_stake
chosen_sum p [] = refl
chosen_sum p (s ∷ c) = split (p 0) (shifted s c (chosen (λ a. p (suc a)) c) ∙ chosen_sum (λ a. p (suc a)) c)
  where
    split : (t : Bool) → sum_of (map (get_stake (s ∷ c)) (map suc (chosen (λ a. p (suc a)) c))) ≡ weigh (λ a. p (suc a)) c
        → sum_of (map (get_stake (s ∷ c)) (pick t (0 ∷ map suc (chosen (λ a. p (suc a)) c)) (map suc (chosen (λ a. p (suc a)) c)))) ≡ pick t s 0 + weigh
        (λ a. p (suc a)) c
    split true e = ap (λ (n : ℕ). s + n) e
    split false e = e ∙ omega arith

pub chosen_once : (p : AuthorityIndex → Bool) (c : Committee) → Once (chosen p c)
unfolding chosen
chosen_once p [] = empty
chosen_once p (s ∷ c) = split (p 0) (once_map suc (λ x y e. suc_inj e) (chosen_once (λ a. p (suc a)) c))
  where
    fresh : 0 ∈ map suc (chosen (λ a. p (suc a)) c) → ⊥
    fresh m =
        let r = map_in suc (chosen (λ a. p (suc a)) c) m in
        let e : suc r.0 ≡ 0 = r.2 in
        omega arith

    split : (t : Bool) → Once (map suc (chosen (λ a. p (suc a)) c)) → Once
        (pick t (0 ∷ map suc (chosen (λ a. p (suc a)) c)) (map suc (chosen (λ a. p (suc a)) c)))
    split true o = also fresh o
    split false o = o

pub chosen_in : (p : AuthorityIndex → Bool) (c : Committee) (a : AuthorityIndex) → a ∈ chosen p c → (a < length c) × (p a ≡ true)
unfolding chosen
chosen_in p [] a m = absurd (in_empty m)
chosen_in p (s ∷ c) a m = split (p 0) refl (λ b k. chosen_in (λ d. p (suc d)) c b k) m
  where
    later : ((b : AuthorityIndex) → b ∈ chosen (λ d. p (suc d)) c → (b < length c) × (p (suc b) ≡ true)) → a ∈ map suc (chosen (λ d. p (suc d)) c) →
        (a < suc (length c)) × (p a ≡ true)
    later ih k =
        let r = map_in suc (chosen (λ d. p (suc d)) c) k in
        let e = r.2 in
        let q = ih r.0 r.1 in
        let l = q.0 in
        (omega arith, ap p (sym e) ∙ q.1)

    first : p 0 ≡ true → ((b : AuthorityIndex) → b ∈ chosen (λ d. p (suc d)) c → (b < length c) × (p (suc b) ≡ true)) → (a ≡ 0) ⊎
        (a ∈ map suc (chosen (λ d. p (suc d)) c)) → (a < suc (length c)) × (p a ≡ true)
    first t ih (inl e) = (omega arith, ap p e ∙ t)
    first t ih (inr k) = later ih k

    split : (t : Bool) → p 0 ≡ t → ((b : AuthorityIndex) → b ∈ chosen (λ d. p (suc d)) c → (b < length c) × (p (suc b) ≡ true))
        → a ∈ pick t (0 ∷ map suc (chosen (λ d. p (suc d)) c)) (map suc (chosen (λ d. p (suc d)) c)) → (a < suc (length c)) × (p a ≡ true)
    split true e ih k = first e ih (in_cases k)
    split false e ih k = later ih k

pub in_chosen : (p : AuthorityIndex → Bool) (c : Committee) (a : AuthorityIndex) → a < length c → p a ≡ true → a ∈ chosen p c
unfolding chosen
in_chosen p [] a h e = absurd (omega arith)
in_chosen p (s ∷ c) zero h e = rw e here
in_chosen p (s ∷ c) (suc a) h e = split (p 0) (in_map suc (in_chosen (λ d. p (suc d)) c a (omega arith) e))
  where
    split : (t : Bool) → suc a ∈ map suc (chosen (λ d. p (suc d)) c) → suc a ∈ pick t (0 ∷ map suc (chosen (λ d. p (suc d)) c))
        (map suc (chosen (λ d. p (suc d)) c))
    split true m = there m
    split false m = m

-- an author who was not in the group adds his stake, and no more
pub weigh_with : (p : AuthorityIndex → Bool) (x : AuthorityIndex) (c : Committee) → p x ≡ false → weigh (λ a. p a || eqb a x) c ≡ weigh p c + get_or c x 0
unfolding weigh
weigh_with p x [] h = omega arith
weigh_with p zero (s ∷ c) h =
    let rest : weigh (λ a. p (suc a) || eqb (suc a) 0) c ≡ weigh (λ a. p (suc a)) c = weigh_same _ _ c
    (λ a k. ap (λ (t : Bool). p (suc a) || t) (ne_eqb (suc a) 0 (λ (e : suc a ≡ 0). omega arith)) ∙ or-false (p (suc a))) in
    rw (h, rest) (omega arith)
weigh_with p (suc x) (s ∷ c) h =
    let rest : weigh (λ a. p (suc a) || eqb (suc a) (suc x)) c ≡ weigh (λ a. p (suc a) || eqb a x) c = weigh_same _ _ c (λ a k. rw (eqb-suc-suc a x)) in
    rw (rest, weigh_with (λ a. p (suc a)) x c h, ne_eqb 0 (suc x) (λ (e : 0 ≡ suc x). omega arith), or-false (p 0)) (omega arith)
