-- The members of a vote set, each once, and their stakes. Assumes nothing.
use mathlib.Core.Path.{◌≡◌, refl, sym, ap, ◌∙◌}
use mathlib.Core.Bool.{Bool, true, false}
use mathlib.Core.List.{List, [], ◌∷◌, ◌++◌, map, append-nil}
use Prim.Native.Nat.{ℕ, zero, suc, ◌+◌, ◌-◌, ◌≤◌, ◌<◌}
use native.Mathlib.Omega.{arith}
use lib.ListN.{length, get_or}
use Rattle.base.specs.Lists.{pick, keep, count_from, sum_of, ◌∈◌, Once}
use Rattle.base.proofs.Tests.{fails}
use Rattle.base.proofs.Lists.{count_from_add, keep_append}
use Rattle.base.proofs.Once.{once_count_from, once_keep}
use Rattle.base.proofs.Members.{in_keep, keep_in, in_count_from}
use Rattle.committee.specs.Committee.{AuthorityIndex, Committee, get_stake}
use Rattle.committee_set.specs.AuthoritySet.{AuthoritySet, member, members, stake_from, stake_of}

-- ---- the members

pub members_once : (v : AuthoritySet) → Once (members v)
unfolding members
members_once v = once_keep (member v) (once_count_from 0 128)

pub members_in : (v : AuthoritySet) (a : AuthorityIndex) → a ∈ members v → member v a ≡ true
unfolding members
members_in v a m = (keep_in (member v) (count_from 0 128) m).1

pub in_members : (v : AuthoritySet) (a : AuthorityIndex) → a < 128 → member v a ≡ true → a ∈ members v
unfolding members
in_members v a k h = in_keep (member v) (count_from 0 128) (in_count_from 0 128 a (omega arith) (omega arith)) h

-- ---- their stakes

-- the stakes f of the members among the numbers from k on that the committee's part c has
stakes_kept : (v : AuthoritySet) (f : ℕ → ℕ) (k : ℕ) (c : Committee) → ((i : ℕ) → f (k + i) ≡ get_or c i 0) → sum_of
    (map f (keep (member v) (count_from k (length c)))) ≡ stake_from k c v
unfolding count_from keep sum_of stake_from
stakes_kept v f k [] h = refl
stakes_kept v f k (s ∷ c) h = go (member v k) (stakes_kept v f (k + 1) c (λ i. let e : k + 1 + i ≡ k + suc i = omega arith in rw e (h (suc i))))
  where
    first : f k ≡ s
    first = let e : k + 0 ≡ k = omega arith in rw e at (h 0)

    go : (t : Bool) → sum_of (map f (keep (member v) (count_from (k + 1) (length c)))) ≡ stake_from (k + 1) c v
        → sum_of (map f (pick t (k ∷ keep (member v) (count_from (k + 1) (length c))) (keep (member v) (count_from (k + 1) (length c))))) ≡ pick t s 0 +
        stake_from (k + 1) c v
    go true e = rw (first, e)
    go false e = e ∙ omega arith

-- no number from k on is a member
none_kept : (p : ℕ → Bool) (k n : ℕ) → ((a : ℕ) → k ≤ a → p a ≡ false) → keep p (count_from k n) ≡ []
unfolding keep count_from
none_kept p k zero h = refl
none_kept p k (suc n) h = rw (h k (omega arith)) (none_kept p (k + 1) n (λ a (l : k + 1 ≤ a). h a (omega arith)))

-- the stake of a set of known members is the sum of their stakes, each once
pub stake_members : (c : Committee) (v : AuthoritySet) → length c ≤ 128 → ((a : AuthorityIndex) → member v a ≡ true → a < length c) → stake_of c v ≡ sum_of
    (map (get_stake c) (members v))
unfolding stake_of members get_stake
stake_members c v few known =
    let n : ℕ = 128 - length c in
    let whole : count_from 0 128 ≡ count_from 0 (length c) ++ count_from (0 + length c) n = let e : 128 ≡ length c + n = omega arith in ap (count_from 0) e ∙
    count_from_add 0 (length c) n in
    let above : keep (member v) (count_from (0 + length c) n) ≡ [] =
    none_kept (member v) (0 + length c) n (λ a (k : 0 + length c ≤ a). fails (member v a) (λ t. omega (arith, known a t))) in
    let kept : keep (member v) (count_from 0 128) ≡ keep (member v) (count_from 0 (length c)) =
    ap (keep (member v)) whole ∙ keep_append (member v) (count_from 0 (length c)) (count_from (0 + length c) n) ∙ ap
    (λ (l : List ℕ). keep (member v) (count_from 0 (length c)) ++ l) above ∙ append-nil (keep (member v) (count_from 0 (length c))) in
    sym (stakes_kept v (λ a. get_or c a 0) 0 c (λ i. let e : 0 + i ≡ i = omega arith in rw e))
    ∙ ap (λ (l : List ℕ). sum_of (map (λ a. get_or c a 0) l)) (sym kept)
