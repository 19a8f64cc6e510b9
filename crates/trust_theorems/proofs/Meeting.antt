-- Two certificates meet. Assumes nothing.
use mathlib.Core.Path.{◌≡◌, refl, ◌∙◌}
use mathlib.Core.Logic.{◌⊎◌, inl, inr}
use mathlib.Core.Bool.{true, not, ◌&&◌}
use mathlib.Core.List.{List}
use Prim.Native.Nat.{ℕ, ◌-◌, ◌/◌, ◌^◌, ◌<◌, min}
use native.Mathlib.Nat.{mod-lt}
use native.Mathlib.Omega.{arith}
use native.Mathlib.Decide.{dec_lt}
use lib.Dec.{eqb}
use lib.Bits.{bit_and, and_shr}
use borrow.Author.Tests.{lt-ltb, le-ltb}
use Rattle.base.proofs.Tests.{and_both, and_right}
use Rattle.committee.specs.Committee.{AuthorityIndex, Committee, is_valid}
use Rattle.committee.specs.Quorum.{HoldQuorum}
use Rattle.committee_set.specs.AuthoritySet.{AuthoritySet, bit, member, stake_of}
use Rattle.committee_set.proofs.Computing.{computing}
use Rattle.committee_set.proofs.Bits.{two_pos, digit}
use Rattle.committee_set.proofs.Quorums.{quorums_meet, quorums_common}
use Rattle.record_spec.specs.Reference.{TransactionLocator}
use Rattle.record_spec.specs.Block.{Block}
use Rattle.final_readings_spec.specs.Readings.{Reading, voters_in, certifies_in}
use Rattle.final_readings_spec.specs.Withdrawing.{VoterIn}
use Rattle.final_readings_spec.proofs.Words.{and_low}
use Rattle.trust_theorems.specs.Meeting.{HoldValid, common, CertificatesMeet}

-- a bit of what two words have in common is set where it is set in both
bit_and_lem : (a b i : ℕ) → bit (bit_and a b) i ≡ bit a i && bit b i
unfolding bit
bit_and_lem a b i = rw (and_shr, and_low (a / 2 ^ i) (b / 2 ^ i)) (both _ _ (digit _ (mod-lt (a / 2 ^ i) two_pos)) (digit _ (mod-lt (b / 2 ^ i) two_pos)))
  where
    both : (d e : ℕ) → (d ≡ 0) ⊎ (d ≡ 1) → (e ≡ 0) ⊎ (e ≡ 1) → eqb (min d e) 1 ≡ eqb d 1 && eqb e 1
    both d e (inl p) (inl q) = rw (p, q)
    both d e (inl p) (inr q) = rw (p, q)
    both d e (inr p) (inl q) = rw (p, q)
    both d e (inr p) (inr q) = rw (p, q)

-- in what two sets have in common is who is in both
member_common : (v w : AuthoritySet) (a : AuthorityIndex) → member (common v w) a ≡ member v a && member w a
unfolding member common
member_common v w a = split (dec_lt a 64)
  where
    split : Dec (a < 64) → member (common v w) a ≡ member v a && member w a
    split (yes h) = rw (lt-ltb a 64 h) (bit_and_lem v.low w.low a)
    split (no h) = rw (le-ltb a 64 (omega arith)) (bit_and_lem v.high w.high (a - 64))

-- two sets of owners that hold quorum have owners in common of valid stake
quorums_valid : (c : Committee) (In On : AuthorityIndex → Type 0) → HoldQuorum c In → HoldQuorum c On → HoldValid c (λ a. In a × On a)
quorums_valid c In On q r = let k = quorums_common c In On q r in record { owners = k.owners; once = k.once; in_set = k.in_both; valid = k.valid }

-- the voters of two certifying blocks
counted_meet : (c : Committee) (r q : Reading) (bs cs : List Block) (l m : TransactionLocator) (b d : Block)
    → certifies_in r c bs l b ≡ true → certifies_in q c cs m d ≡ true
    → is_valid c (stake_of c (common (voters_in r bs l b.reference) (voters_in q cs m d.reference))) ≡ true
unfolding certifies_in
counted_meet c r q bs cs l m b d h k =
    let v : AuthoritySet = voters_in r bs l b.reference in
    let w : AuthoritySet = voters_in q cs m d.reference in
    quorums_meet c v w (common v w) (λ a j e f. member_common v w a ∙ and_both _ _ e f) (and_right (not b.marked) _ h) (and_right (not d.marked) _ k)

pub certificates_meet : CertificatesMeet
unfolding computing common
certificates_meet =
    record {
      owners = λ c r q bs cs l m a d x y. quorums_valid c (VoterIn r bs x.block l) (VoterIn q cs y.block m) x.quorum y.quorum;
      counted = counted_meet;
      sharp = refl;
    }
