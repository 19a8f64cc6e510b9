-- The stake of a set, one member of the committee at a time; its most; who is known in it. Assumes nothing.
use mathlib.Core.Path.{◌≡◌, refl, ap}
use mathlib.Core.Bool.{true, false}
use mathlib.Core.List.{[], ◌∷◌}
use Prim.Native.Nat.{ℕ, ◌+◌, ◌≤◌, ◌<◌}
use native.Mathlib.Decide.{dec_lt}
use native.Mathlib.Omega.{arith}
use lib.ListN.{length, get_or, drop, drop_of_length-le}
use borrow.Author.Tests.{lt-ltb, le-ltb}
use Rattle.base.specs.Lists.{pick, all_of, sum_of, count_from}
use Rattle.base.proofs.Loops.{drop_next}
use Rattle.base.proofs.Members.{keep_in, in_all, all_in, in_keep, in_count_from, count_from_in}
use Rattle.base.proofs.Tests.{fails, not_both}
use Rattle.committee.specs.Committee.{AuthorityIndex, Committee, total_stake, known}
use Rattle.committee_set.specs.AuthoritySet.{AuthoritySet, member, members, stake_from, stake_of}
use Rattle.committee_set.proofs.Stakes.{weigh, weigh_mono, stake_of_lem}

-- as a loop over the stakes adds it up
pub stake_on : (c : Committee) (v : AuthoritySet) (i : ℕ) → i < length c → stake_from i (drop i c) v ≡ pick (member v i) (get_or c i 0) 0 + stake_from (i + 1)
    (drop (i + 1) c) v
unfolding stake_from
stake_on c v i h = rw (drop_next c i h)

pub stake_end : (c : Committee) (v : AuthoritySet) (i : ℕ) → length c ≤ i → stake_from i (drop i c) v ≡ 0
unfolding stake_from
stake_end c v i h = rw (drop_of_length-le c h)

everyone : (c : Committee) → weigh (λ a. true) c ≡ sum_of c
unfolding weigh sum_of
everyone [] = refl
everyone (s ∷ c) = ap (λ (n : ℕ). s + n) (everyone c)

-- no set has more stake than the committee
pub stake_most : (c : Committee) (v : AuthoritySet) → stake_of c v ≤ total_stake c
unfolding total_stake
stake_most c v = omega (arith, stake_of_lem c v, everyone c, weigh_mono (member v) (λ a. true) c (λ a k e. refl))

-- a set is known where no number past the committee is in it, and unknown where one is
pub members_known : (c : Committee) (v : AuthoritySet) → ((a : AuthorityIndex) → length c ≤ a → a < 128 → member v a ≡ false) → all_of (known c) (members v) ≡
    true
unfolding members known
members_known c v h = in_all (known c) (members v) (λ a m. let k = keep_in (member v) (count_from 0 128) m in within a (count_from_in 0 128 k.0).1 k.1)
  where
    within : (a : AuthorityIndex) → a < 0 + 128 → member v a ≡ true → known c a ≡ true
    within a l e = not_below a l e (dec_lt a (length c))
      where
        not_below : (a : AuthorityIndex) → a < 0 + 128 → member v a ≡ true → Dec (a < length c) → known c a ≡ true
        not_below a l e (yes k) = lt-ltb a (length c) k
        not_below a l e (no k) = absurd (not_both e (h a (omega arith) (omega arith)))

pub members_unknown : (c : Committee) (v : AuthoritySet) (a : AuthorityIndex) → length c ≤ a → a < 128 → member v a ≡ true → all_of (known c) (members v)
    ≡ false
unfolding members known
members_unknown c v a h l e =
    fails (all_of (known c) (members v)) (λ k. not_both (all_in (known c) (members v) k
    (in_keep (member v) (count_from 0 128) (in_count_from 0 128 a (omega arith) (omega arith)) e)) (le-ltb a (length c) h))
