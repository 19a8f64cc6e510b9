-- For the code: the next owner to ring is found by one pass, and what is left is ranked alike. Assumes nothing.
use mathlib.Core.Path.{◌≡◌, refl, sym, ap, ◌∙◌, subst}
use mathlib.Core.Logic.{◌⊎◌, inl, inr}
use mathlib.Core.Bool.{true, false, not, ◌&&◌, ◌||◌}
use mathlib.Core.List.{List, [], ◌∷◌, ◌++◌}
use Prim.Native.Nat.{ℕ, ◌+◌, ◌≤◌, ◌<◌}
use native.Mathlib.Omega.{arith}
use native.Mathlib.Decide.{ℕ_discrete, dec_lt}
use lib.Dec.{ltb, eqb}
use borrow.Author.Tests.{lt-ltb, le-ltb, eq-eqb, ne_eqb, ltb-true, eqb-true}
use Rattle.base.specs.Lists.{pick, keep, ◌∈◌, here, there, Once, also}
use Rattle.base.proofs.Tests.{fails, or_cases, or_left, or_right, and_left, and_right, and_both, same_test}
use Rattle.base.proofs.Members.{in_empty, in_cases, in_first, in_left, in_right, in_append}
use Rattle.committee.specs.Committee.{AuthorityIndex, Stake, Committee, is_quorum, get_stake}
use Rattle.committee_set.specs.AuthoritySet.{member, inserted, set_of}
use Rattle.committee_set.proofs.Votes.{member_inserted}
use Rattle.committee_set.proofs.Words.{small_inserted, set_ext}
use Rattle.ring_owners.specs.Ranked.{ahead, placed, ranked, until_quorum}
use Rattle.ring_owners.specs.Step.{First}
use Rattle.ring_owners.proofs.Ranking.{ranked_in}
use Rattle.ring_owners.proofs.Kept.{keep_all, small_set, set_in, in_set}

abbrev pub others : AuthorityIndex → List AuthorityIndex → List AuthorityIndex
others h xs = keep (λ a. not (eqb a h)) xs

ahead_not : (c : Committee) (a b : AuthorityIndex) → ahead c a b ≡ true → ahead c b a ≡ false
unfolding ahead
ahead_not c a b h = fails _ (λ k. both (or_cases (ltb (get_stake c b) (get_stake c a)) _ h) (or_cases (ltb (get_stake c a) (get_stake c b)) _ k))
  where
    both : (ltb (get_stake c b) (get_stake c a) ≡ true) ⊎ (eqb (get_stake c b) (get_stake c a) && ltb a b ≡ true) → (ltb (get_stake c a) (get_stake c b) ≡ true)
        ⊎
        (eqb (get_stake c a) (get_stake c b) && ltb b a ≡ true) → ⊥
    both (inl p) (inl q) = omega (arith, ltb-true (get_stake c b) (get_stake c a) p, ltb-true (get_stake c a) (get_stake c b) q)
    both (inl p) (inr q) = omega (
      arith,
      ltb-true (get_stake c b) (get_stake c a) p,
      eqb-true (get_stake c a) (get_stake c b)
          (and_left (eqb (get_stake c a) (get_stake c b)) _ q),
    )
    both (inr p) (inl q) = omega (
      arith,
      eqb-true (get_stake c b) (get_stake c a) (and_left (eqb (get_stake c b) (get_stake c a)) _ p),
      ltb-true (get_stake c a)
          (get_stake c b) q,
    )
    both (inr p) (inr q) = omega (
      arith,
      ltb-true a b (and_right (eqb (get_stake c b) (get_stake c a)) _ p),
      ltb-true b a
          (and_right (eqb (get_stake c a) (get_stake c b)) _ q),
    )

-- placed before all others
placed_first : (c : Committee) (h : AuthorityIndex) (ys : List AuthorityIndex) → ((y : AuthorityIndex) → y ∈ ys → ahead c h y ≡ true) → placed c h ys ≡ h ∷ ys
unfolding placed
placed_first c h [] f = refl
placed_first c h (y ∷ ys) f = rw (f y here)

-- the first goes ahead of the others, in their rank
pub ranked_first : (c : Committee) (xs : List AuthorityIndex) (h : AuthorityIndex) → Once xs → First c xs h → ranked c xs ≡ h ∷ ranked c (others h xs)
unfolding ranked keep
ranked_first c [] h o f = absurd (in_empty f.among)
ranked_first c (x ∷ xs) h (also n o) f = go (ℕ_discrete x h) (λ k. ranked_first c xs h o k)
  where
    lead : x ≡ h → (y : AuthorityIndex) → y ∈ ranked c xs → ahead c x y ≡ true
    lead e y m = one (f.leads y (there (ranked_in c xs m)))
      where
        one : (y ≡ h) ⊎ (ahead c h y ≡ true) → ahead c x y ≡ true
        one (inl q) = absurd (n (subst (λ (z : ℕ). z ∈ xs) (q ∙ sym e) (ranked_in c xs m)))
        one (inr k) = rw e k

    apart : x ≡ h → (a : ℕ) → a ∈ xs → not (eqb a h) ≡ true
    apart e a m = rw (ne_eqb a h (λ q. n (subst (λ (z : ℕ). z ∈ xs) (q ∙ sym e) m)))

    later : (h ≡ x) ⊎ (h ∈ xs) → (x ≡ h → ⊥) → h ∈ xs
    later (inl e) k = absurd (k (sym e))
    later (inr m) k = m

    behind : (x ≡ h) ⊎ (ahead c h x ≡ true) → (x ≡ h → ⊥) → ahead c x h ≡ false
    behind (inl e) k = absurd (k e)
    behind (inr m) k = ahead_not c h x m

    go : Dec (x ≡ h) → (First c xs h → ranked c xs ≡ h ∷ ranked c (others h xs)) → placed c x (ranked c xs) ≡ h ∷ ranked c
        (pick (not (eqb x h)) (x ∷ others h xs) (others h xs))
    go (yes e) ih = placed_first c x (ranked c xs) (lead e) ∙ rw (eq-eqb x h e, keep_all (λ a. not (eqb a h)) xs (apart e))
        (ap {B = List ℕ} (λ y. y ∷ ranked c xs) e)
    go (no e) ih =
        let k : First c xs h = record { among = later (in_cases f.among) e; leads = λ y m. f.leads y (there m) } in
        rw (ih k, ne_eqb x h e) (unfold placed in rw (behind (f.leads x here) e))

-- one turn of the loop: enough already, or the first is rung
pub rung_next : (c : Committee) (s : Stake) (xs : List AuthorityIndex) (h : AuthorityIndex) → Once xs → First c xs h
    → until_quorum c s (ranked c xs) ≡ pick (is_quorum c s) [] (h ∷ until_quorum c (s + get_stake c h) (ranked c (others h xs)))
unfolding until_quorum
rung_next c s xs h o f = rw (ranked_first c xs h o f)

-- the pass: the first of a list and one more of a higher number
pub first_one : (c : Committee) (a : AuthorityIndex) → First c (a ∷ []) a
first_one c a = record { among = here; leads = λ y m. alone y (in_cases m) }
  where
    alone : (y : AuthorityIndex) → (y ≡ a) ⊎ (y ∈ []) → (y ≡ a) ⊎ (ahead c a y ≡ true)
    alone y (inl e) = inl e
    alone y (inr m) = absurd (in_empty m)

pub first_scan : (c : Committee) (xs : List AuthorityIndex) (h a : AuthorityIndex) → ((y : AuthorityIndex) → y ∈ xs → y < a) → First c xs h
    → First c (xs ++ a ∷ []) (pick (ltb (get_stake c h) (get_stake c a)) a h)
first_scan c xs h a up f = go (dec_lt (get_stake c h) (get_stake c a))
  where
    most : (y : AuthorityIndex) → y ∈ xs → get_stake c y ≤ get_stake c h
    most y m = one (f.leads y m)
      where
        one : (y ≡ h) ⊎ (ahead c h y ≡ true) → get_stake c y ≤ get_stake c h
        one (inl e) = omega (arith, ap (get_stake c) e)
        one (inr k) = by (or_cases (ltb (get_stake c y) (get_stake c h)) _ (unfold ahead in k))
          where
            by : (ltb (get_stake c y) (get_stake c h) ≡ true) ⊎ (eqb (get_stake c y) (get_stake c h) && ltb h y ≡ true) → get_stake c y ≤ get_stake c h
            by (inl p) = omega (arith, ltb-true (get_stake c y) (get_stake c h) p)
            by (inr p) = omega (arith, eqb-true (get_stake c y) (get_stake c h) (and_left (eqb (get_stake c y) (get_stake c h)) _ p))

    go : Dec (get_stake c h < get_stake c a) → First c (xs ++ a ∷ []) (pick (ltb (get_stake c h) (get_stake c a)) a h)
    go (yes l) = rw (lt-ltb (get_stake c h) (get_stake c a) l) (record { among = in_right xs here; leads = λ y m. new y (in_append xs m) })
      where
        new : (y : AuthorityIndex) → (y ∈ xs) ⊎ (y ∈ (a ∷ [])) → (y ≡ a) ⊎ (ahead c a y ≡ true)
        new y (inl m) = inr (unfold ahead in or_left (ltb (get_stake c y) (get_stake c a)) _ (lt-ltb (get_stake c y) (get_stake c a) (omega (arith, most y m))))
        new y (inr m) = (first_one c a).leads y m
    go (no l) = rw (le-ltb (get_stake c h) (get_stake c a) (omega arith)) (record { among = in_left (a ∷ []) f.among; leads = λ y m. old y (in_append xs m) })
      where
        last : (y : AuthorityIndex) → (y ≡ a) ⊎ (y ∈ []) → ahead c h y ≡ true
        last y (inr m) = absurd (in_empty m)
        last y (inl e) = rw e (by (dec_lt (get_stake c a) (get_stake c h)))
          where
            by : Dec (get_stake c a < get_stake c h) → ahead c h a ≡ true
            by (yes k) = unfold ahead in or_left (ltb (get_stake c a) (get_stake c h)) _ (lt-ltb (get_stake c a) (get_stake c h) k)
            by (no k) =
                unfold ahead in or_right (ltb (get_stake c a) (get_stake c h)) _
                (and_both _ _ (eq-eqb (get_stake c a) (get_stake c h) (omega arith)) (lt-ltb h a (up h f.among)))

        old : (y : AuthorityIndex) → (y ∈ xs) ⊎ (y ∈ (a ∷ [])) → (y ≡ h) ⊎ (ahead c h y ≡ true)
        old y (inl m) = f.leads y m
        old y (inr m) = inr (last y (in_cases m))

-- the set grows by one owner at the end of the list
pub set_next : (xs : List AuthorityIndex) (a : AuthorityIndex) → a < 128 → ((y : AuthorityIndex) → y ∈ xs → y < 128) → set_of (xs ++ a ∷ []) ≡ inserted
    (set_of xs) a
set_next xs a l f =
    set_ext (set_of (xs ++ a ∷ [])) (inserted (set_of xs) a) (small_set (xs ++ a ∷ []) (λ y m. below y (in_append xs m)))
    (small_inserted (set_of xs) a l (small_set xs f)) (λ b k. same_test _ _ (λ h. there_in b h) (λ h. back_in b h))
  where
    below : (y : AuthorityIndex) → (y ∈ xs) ⊎ (y ∈ (a ∷ [])) → y < 128
    below y (inl m) = f y m
    below y (inr m) = last (in_cases m)
      where
        last : (y ≡ a) ⊎ (y ∈ []) → y < 128
        last (inl e) = omega arith
        last (inr n) = absurd (in_empty n)

    there_in : (b : AuthorityIndex) → member (set_of (xs ++ a ∷ [])) b ≡ true → member (inserted (set_of xs) a) b ≡ true
    there_in b h = member_inserted (set_of xs) a b ∙ go (in_append xs (set_in (xs ++ a ∷ []) b h))
      where
        go : (b ∈ xs) ⊎ (b ∈ (a ∷ [])) → member (set_of xs) b || eqb b a ≡ true
        go (inl m) = or_left (member (set_of xs) b) _ (in_set xs b m)
        go (inr m) = or_right (member (set_of xs) b) _ (last (in_cases m))
          where
            last : (b ≡ a) ⊎ (b ∈ []) → eqb b a ≡ true
            last (inl e) = eq-eqb b a e
            last (inr n) = absurd (in_empty n)

    back_in : (b : AuthorityIndex) → member (inserted (set_of xs) a) b ≡ true → member (set_of (xs ++ a ∷ [])) b ≡ true
    back_in b h = in_set (xs ++ a ∷ []) b (go (or_cases (member (set_of xs) b) _ (sym (member_inserted (set_of xs) a b) ∙ h)))
      where
        go : (member (set_of xs) b ≡ true) ⊎ (eqb b a ≡ true) → b ∈ (xs ++ a ∷ [])
        go (inl k) = in_left (a ∷ []) (set_in xs b k)
        go (inr k) = in_right xs (in_first (eqb-true b a k))
