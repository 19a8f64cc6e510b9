-- One pass over the committee finds the next owner to ring. Assumes nothing.
use mathlib.Core.Path.{◌≡◌, refl, ap, ◌∙◌}
use mathlib.Core.Bool.{Bool, true, false}
use mathlib.Core.List.{List, [], ◌∷◌, ◌++◌, append-nil}
use Prim.Native.Nat.{ℕ, ◌+◌, ◌-◌, ◌≤◌, ◌<◌}
use native.Mathlib.Omega.{arith}
use lib.Dec.{eqb}
use lib.ListN.{length, get_or}
use borrow.Author.Tests.{lt-ltb, le-ltb, eq-eqb, not-true, not-false}
use Rattle.base.specs.Lists.{pick, keep, count_from, any_of, ◌∈◌}
use Rattle.base.specs.Checks.{passes}
use Rattle.base.proofs.Checks.{passes_first, passes_others}
use Rattle.base.proofs.Lists.{keep_append, count_from_add}
use Rattle.base.proofs.Members.{in_any, keep_in, count_from_in}
use Rattle.base.proofs.Places.{in_place}
use Rattle.base.proofs.Tests.{fails, not_both, and_left, and_right}
use Rattle.committee.specs.Committee.{AuthorityIndex, Stake, Committee, committee_checks, broken, known, get_stake}
use Rattle.committee.proofs.Bounds.{few_members, known_below}
use Rattle.committee_set.specs.AuthoritySet.{AuthoritySet, member}
use Rattle.ring_owners.specs.Rung.{ringable}
use Rattle.ring_owners.specs.Ranked.{reached}
use Rattle.ring_owners.specs.Step.{First}
use Rattle.ring_owners.proofs.Kept.{keep_none}
use Rattle.ring_owners.proofs.Steps.{first_one, first_scan}

-- no member has a stake of zero
stake_above : (c : Committee) (i : AuthorityIndex) → broken c ≡ false → i < length c → 0 < get_stake c i
unfolding broken committee_checks get_stake
stake_above c i h l =
    let ok : passes (committee_checks c) ≡ true = not-false (passes (committee_checks c)) h in
    let none : any_of (λ s. eqb s 0) c ≡ false = passes_first _ _ (passes_others _ _ ok) in
    let above : get_or c i 0 ≡ 0 → ⊥ = λ e. not_both (in_any (λ s. eqb s 0) (in_place 0 c i l) (eq-eqb (get_or c i 0) 0 e)) none in
    omega arith

module _ (c : Committee) (v r : AuthoritySet) (a : AuthorityIndex) where
  pub ringable_known : ringable c v r a ≡ true → a < length c
  unfolding ringable
  ringable_known h = known_below c a (and_left (known c a) _ h)

  pub ringable_new : ringable c v r a ≡ true → member v a ≡ false
  unfolding ringable
  ringable_new h = not-true (member v a) (and_right (member r a) _ (and_right (known c a) _ h))

  pub not_reached : member r a ≡ false → ringable c v r a ≡ false
  unfolding ringable
  not_reached h = fails _ (λ k. not_both (and_left (member r a) _ (and_right (known c a) _ k)) h)

  pub has_voted : member v a ≡ true → ringable c v r a ≡ false
  has_voted h = fails (ringable c v r a) (λ k. not_both h (ringable_new k))

  pub is_ringable : a < length c → member r a ≡ true → member v a ≡ false → ringable c v r a ≡ true
  unfolding ringable known
  is_ringable l h k = rw (lt-ltb a (length c) l, h, k)

module _ (c : Committee) (v r : AuthoritySet) where
  -- the owners below i who can be rung
  abbrev below : ℕ → List AuthorityIndex
  below i = keep (ringable c v r) (count_from 0 i)

  -- the pass has come to i: nobody can be rung so far, or `best` is the first of them and has the stake `most`
  pub data Scanned (i best : ℕ) (most : Stake) : Type 0 where
    nobody_yet : below i ≡ [] → most ≡ 0 → Scanned i best most
    found_one : First c (below i) best → most ≡ get_stake c best → Scanned i best most

  next_below : (i : ℕ) → below (i + 1) ≡ below i ++ pick (ringable c v r i) (i ∷ []) []
  unfolding keep count_from
  next_below i =
      let here : 0 + i ≡ i = omega arith in
      ap (keep (ringable c v r)) (count_from_add 0 i 1) ∙ keep_append (ringable c v r) (count_from 0 i) (count_from (0 + i) 1) ∙ rw here

  below_in : (i : ℕ) (a : AuthorityIndex) → a ∈ below i → a < i
  below_in i a m = omega (arith, (count_from_in 0 i (keep_in (ringable c v r) (count_from 0 i) m).0).1)

  pub scan_start : Scanned 0 0 0
  scan_start = nobody_yet (unfold keep count_from in refl) refl

  -- an owner who brings nothing
  scan_past : (i best : ℕ) (most : Stake) → ringable c v r i ≡ false → Scanned i best most → Scanned (i + 1) best most
  scan_past i best most h s = go s (next_below i ∙ rw h (append-nil (below i)))
    where
      go : Scanned i best most → below (i + 1) ≡ below i → Scanned (i + 1) best most
      go (nobody_yet e z) same = nobody_yet (same ∙ e) z
      go (found_one f z) same = found_one (rw same f) z

  -- the stake that an owner brings
  abbrev brings : ℕ → Stake
  brings i = pick (ringable c v r i) (get_stake c i) 0

  pub scan_better : (i best : ℕ) (most : Stake) → most < brings i → Scanned i best most → Scanned (i + 1) i (brings i)
  scan_better i best most = go (ringable c v r i) refl
    where
      go : (t : Bool) → ringable c v r i ≡ t → most < pick t (get_stake c i) 0 → Scanned i best most → Scanned (i + 1) i (pick t (get_stake c i) 0)
      go false e l s = absurd (omega arith)
      go true e l (nobody_yet n z) = found_one (rw (next_below i, e, n) (first_one c i)) refl
      go true e l (found_one f z) =
          let longer : below (i + 1) ≡ below i ++ i ∷ [] = next_below i ∙ rw e in
          found_one (rw longer (rw (lt-ltb (get_stake c best) (get_stake c i) (omega arith)) at (first_scan c (below i) best i (below_in i) f))) refl

  pub scan_worse : (i best : ℕ) (most : Stake) → broken c ≡ false → i < length c → brings i ≤ most → Scanned i best most → Scanned (i + 1) best most
  scan_worse i best most b k = go (ringable c v r i) refl
    where
      go : (t : Bool) → ringable c v r i ≡ t → pick t (get_stake c i) 0 ≤ most → Scanned i best most → Scanned (i + 1) best most
      go false e l s = scan_past i best most e s
      go true e l (nobody_yet n z) = absurd (omega (arith, stake_above c i b k))
      go true e l (found_one f z) =
          let longer : below (i + 1) ≡ below i ++ i ∷ [] = next_below i ∙ rw e in
          found_one (rw longer (rw (le-ltb (get_stake c best) (get_stake c i) (omega arith)) at (first_scan c (below i) best i (below_in i) f))) z

  -- the pass has seen every member
  all_below : (i : ℕ) → i ≡ length c → length c ≤ 128 → reached c v r ≡ below i
  unfolding reached
  all_below i e few =
      let from : 0 + i ≡ i = omega arith in
      let parts : count_from 0 128 ≡ count_from 0 i ++ count_from i (128 - i) = ap (λ (n : ℕ). count_from 0 n) (the i (omega arith)) ∙ rw from at
      (count_from_add 0 i (128 - i)) in
      let rest : keep (ringable c v r) (count_from i (128 - i)) ≡ [] = keep_none (ringable c v r) (count_from i (128 - i))
      (λ a m. unknown a (omega (arith, (count_from_in i (128 - i) m).0))) in
      rw parts (keep_append (ringable c v r) (count_from 0 i) (count_from i (128 - i)) ∙ rw rest (append-nil (below i)))
    where
      the : (n : ℕ) → n ≤ 128 → 128 ≡ n + (128 - n)
      the n h = omega arith

      unknown : (a : AuthorityIndex) → length c ≤ a → ringable c v r a ≡ false
      unknown a h = fails (ringable c v r a) (λ k. let l : a < length c = ringable_known c v r a k in omega arith)

  pub scan_end : (i best : ℕ) (most : Stake) → broken c ≡ false → i ≡ length c → (reached c v r ≡ [] → ⊥) → Scanned i best most → First c (reached c v r) best
  scan_end i best most b e some s = go s (all_below i e (few_members c b))
    where
      go : Scanned i best most → reached c v r ≡ below i → First c (reached c v r) best
      go (nobody_yet n z) same = absurd (some (same ∙ n))
      go (found_one f z) same = rw same f
