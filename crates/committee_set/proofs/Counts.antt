-- The number of voters is the number of ones in the two words. Assumes nothing.
use mathlib.Core.Path.{◌≡◌, refl, sym, ap, ◌∙◌}
use mathlib.Core.Logic.{◌⊎◌, inl, inr}
use mathlib.Core.Bool.{Bool, true, false, ◌||◌, or-false}
use mathlib.Core.List.{List, [], ◌∷◌}
use Prim.Native.Nat.{ℕ, zero, suc, ◌+◌, ◌-◌, ◌*◌, ◌/◌, ◌%◌, ◌^◌, ◌≤◌, ◌<◌}
use native.Mathlib.Nat.{mod-lt, pow-suc}
use native.Mathlib.Decide.{ℕ_discrete}
use native.Mathlib.Omega.{arith}
use lib.Dec.{eqb}
use lib.Count.{ones, ones_in, ones_step}
use lib.ListN.{length, length-append}
use borrow.Author.Tests.{lt-ltb, le-ltb, eq-eqb, ne_eqb}
use Rattle.base.specs.Lists.{pick, keep, count_from}
use Rattle.base.proofs.Lists.{keep_append, count_from_add}
use Rattle.committee_set.specs.AuthoritySet.{AuthoritySet, bit, member, members, number_of_voters, inserted}
use Rattle.committee.specs.Committee.{AuthorityIndex}
use Rattle.committee_set.proofs.Bits.{two_pos, digit}
use Rattle.committee_set.proofs.Votes.{member_inserted}
use Rattle.committee_set.proofs.Words.{Small, bit_first, bit_next}

ones_none : ones 0 ≡ 0
unfolding ones ones_in
ones_none = refl

-- as many of n numbers from k on pass the test as w has ones, where the test is w's bits in order
ones_kept : (p : ℕ → Bool) (n k w : ℕ) → w < 2 ^ n → ((i : ℕ) → i < n → p (k + i) ≡ bit w i) → length (keep p (count_from k n)) ≡ ones w
unfolding keep count_from
ones_kept p zero k w h f = let e : w ≡ 0 = omega arith in rw e (sym ones_none)
ones_kept p (suc n) k w h f =
    let z : k + 0 ≡ k = omega arith in
    let half : w / 2 < 2 ^ n = let q : 2 ^ suc n ≡ 2 ^ n * 2 = pow-suc 2 n in omega arith in
    let rest : length (keep p (count_from (k + 1) n)) ≡ ones (w / 2) = ones_kept p n (k + 1) (w / 2) half
    (λ i l. let e : k + 1 + i ≡ k + suc i = omega arith in rw e (f (suc i) (omega arith) ∙ bit_next w i)) in
    let first : p k ≡ eqb (w % 2) 1 = rw z at (f 0 (omega arith)) ∙ bit_first w in
    rw (ones_step w, first) (each (digit (w % 2) (mod-lt w two_pos)) rest)
  where
    each : {d m : ℕ} → (d ≡ 0) ⊎ (d ≡ 1) → length (keep p (count_from (k + 1) n)) ≡ m
        → length (pick (eqb d 1) (k ∷ keep p (count_from (k + 1) n)) (keep p (count_from (k + 1) n))) ≡ d + m
    each (inl e) r = rw e (r ∙ omega arith)
    each (inr e) r = rw e (ap suc r ∙ omega arith)

-- 01: "its number of voters", as the code counts them
pub voters_ones : (v : AuthoritySet) → Small v → number_of_voters v ≡ ones v.low + ones v.high
unfolding number_of_voters members
voters_ones v h =
    ap (λ (l : List ℕ). length (keep (member v) l)) (count_from_add 0 64 64)
    ∙ ap length (keep_append (member v) (count_from 0 64) (count_from 64 64))
    ∙ length-append (keep (member v) (count_from 0 64)) (keep (member v) (count_from 64 64))
    ∙ rw (ones_kept (member v) 64 0 v.low h.low lows, ones_kept (member v) 64 64 v.high h.high highs)
  where
    lows : (i : ℕ) → i < 64 → member v (0 + i) ≡ bit v.low i
    lows i l = unfold member in let e : 0 + i ≡ i = omega arith in rw (e, lt-ltb i 64 l)

    highs : (i : ℕ) → i < 64 → member v (64 + i) ≡ bit v.high i
    highs i l = unfold member in let e : 64 + i - 64 ≡ i = omega arith in rw (le-ltb (64 + i) 64 (omega arith), e)

-- ---- one more voter

-- how many numbers from k on pass a test, once it holds of a too
kept_before : (p : ℕ → Bool) (a n k : ℕ) → a < k → length (keep (λ b. p b || eqb b a) (count_from k n)) ≡ length (keep p (count_from k n))
unfolding keep count_from
kept_before p a zero k h = refl
kept_before p a (suc n) k h = rw (ne_eqb k a (λ (e : k ≡ a). omega arith), or-false (p k)) (each (p k) (kept_before p a n (k + 1) (omega arith)))
  where
    each : (t : Bool) → length (keep (λ b. p b || eqb b a) (count_from (k + 1) n)) ≡ length (keep p (count_from (k + 1) n))
        → length (pick t (k ∷ keep (λ b. p b || eqb b a) (count_from (k + 1) n)) (keep (λ b. p b || eqb b a) (count_from (k + 1) n)))
        ≡ length (pick t (k ∷ keep p (count_from (k + 1) n)) (keep p (count_from (k + 1) n)))
    each true e = ap suc e
    each false e = e

kept_more : (p : ℕ → Bool) (a n k : ℕ) → p a ≡ false → k ≤ a → a < k + n → length (keep (λ b. p b || eqb b a) (count_from k n)) ≡ length
    (keep p (count_from k n)) + 1
unfolding keep count_from
kept_more p a zero k h l m = absurd (omega arith)
kept_more p a (suc n) k h l m = at (ℕ_discrete k a) (λ (u : k + 1 ≤ a). kept_more p a n (k + 1) h u (omega arith))
  where
    each : (t : Bool) → length (keep (λ b. p b || eqb b a) (count_from (k + 1) n)) ≡ length (keep p (count_from (k + 1) n)) + 1
        → length (pick t (k ∷ keep (λ b. p b || eqb b a) (count_from (k + 1) n)) (keep (λ b. p b || eqb b a) (count_from (k + 1) n)))
        ≡ length (pick t (k ∷ keep p (count_from (k + 1) n)) (keep p (count_from (k + 1) n))) + 1
    each true e = ap suc e ∙ omega arith
    each false e = e

    at : Dec (k ≡ a) → (k + 1 ≤ a → length (keep (λ b. p b || eqb b a) (count_from (k + 1) n)) ≡ length (keep p (count_from (k + 1) n)) + 1)
        → length (keep (λ b. p b || eqb b a) (count_from k (suc n))) ≡ length (keep p (count_from k (suc n))) + 1
    at (yes e) f = rw (e, h, eq-eqb a a refl) (ap suc (kept_before p a n (a + 1) (omega arith)) ∙ omega arith)
    at (no e) f = rw (ne_eqb k a e, or-false (p k)) (each (p k) (f (omega arith)))

same_number : (p q : ℕ → Bool) (l : List ℕ) → ((b : ℕ) → p b ≡ q b) → keep p l ≡ keep q l
unfolding keep
same_number p q [] h = refl
same_number p q (x ∷ l) h = rw (h x, same_number p q l h)

-- inserting an author who was not in the set makes the voters one more
pub voters_inserted : (v : AuthoritySet) (a : AuthorityIndex) → a < 128 → member v a ≡ false → number_of_voters (inserted v a) ≡ number_of_voters v + 1
unfolding number_of_voters members
voters_inserted v a l h =
    ap length (same_number (member (inserted v a)) (λ b. member v b || eqb b a) (count_from 0 128) (member_inserted v a))
    ∙ kept_more (member v) a 128 0 h (omega arith) (omega arith)
