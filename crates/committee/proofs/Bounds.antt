-- Bounds of a committee that is not broken, of its stakes and of its numbers. Assumes nothing.
use mathlib.Core.Path.{◌≡◌}
use mathlib.Core.Bool.{true, false}
use mathlib.Core.List.{[], ◌∷◌}
use Prim.Native.Nat.{zero, suc, ◌*◌, ◌≤◌, ◌<◌}
use native.Mathlib.Omega.{arith}
use lib.ListN.{length}
use borrow.Author.Tests.{lt-ltb, ltb-false, not-false, ltb-true}
use Rattle.base.specs.Lists.{sum_of}
use Rattle.base.specs.Checks.{passes}
use Rattle.base.proofs.Checks.{passes_first, passes_others}
use Rattle.committee.specs.Committee.{AuthorityIndex, Stake, Committee, total_stake, committee_checks, broken, is_quorum, known, get_stake}

-- a committee that is not broken has at most 128 members
pub few_members : (c : Committee) → broken c ≡ false → length c ≤ 128
unfolding broken committee_checks
few_members c h =
    let ok : passes (committee_checks c) ≡ true = not-false (passes (committee_checks c)) h in
    ltb-false 128 (length c) (passes_first _ _ (passes_others _ _ (passes_others _ _ ok)))

pub known_below : (c : Committee) (a : AuthorityIndex) → known c a ≡ true → a < length c
unfolding known
known_below c a h = ltb-true a (length c) h

-- 01: "total T at most 2^63 - 1"
pub total_most : (c : Committee) → broken c ≡ false → total_stake c ≤ 9223372036854775807
unfolding broken committee_checks
total_most c h =
    let ok : passes (committee_checks c) ≡ true = not-false (passes (committee_checks c)) h in
    ltb-false 9223372036854775807 (total_stake c) (passes_first _ _ (passes_others _ _ (passes_others _ _ (passes_others _ _ ok))))

-- no member has more stake than the committee
pub member_most : (c : Committee) (a : AuthorityIndex) → get_stake c a ≤ total_stake c
unfolding get_stake total_stake sum_of
member_most [] a = omega arith
member_most (s ∷ c) zero = omega arith
member_most (s ∷ c) (suc a) = omega (arith, member_most c a)

-- more stake holds quorum too
pub more_quorum : (c : Committee) (s t : Stake) → s ≤ t → is_quorum c s ≡ true → is_quorum c t ≡ true
unfolding is_quorum
more_quorum c s t h k = lt-ltb (2 * total_stake c) (3 * t) (omega (arith, ltb-true (2 * total_stake c) (3 * s) k))
