-- Who is in a vote set. Assumes nothing.
use mathlib.Core.Path.{◌≡◌, refl, sym}
use mathlib.Core.Bool.{Bool, true, false, ◌||◌, or-false, or_comm}
use mathlib.Core.List.{List, [], ◌∷◌}
use Prim.Native.Nat.{◌+◌, ◌-◌, ◌^◌, ◌<◌}
use native.Mathlib.Omega.{arith}
use native.Mathlib.Decide.{dec_lt}
use lib.Dec.{eqb, ltb}
use borrow.Author.Tests.{lt-ltb, le-ltb, eq-eqb, ne_eqb, eqb-true}
use Rattle.base.specs.Lists.{pick, any_of}
use Rattle.base.proofs.Tests.{same_test}
use Rattle.committee.specs.Committee.{AuthorityIndex, Committee}
use Rattle.committee_set.specs.AuthoritySet.{AuthoritySet, nobody, bit, member, inserted, united, set_of, stake_from}
use Rattle.committee_set.proofs.Bits.{bit_or_lem, bit_zero, bit_pow}

-- nobody is in the empty set
pub member_nobody : (a : AuthorityIndex) → member nobody a ≡ false
unfolding member
member_nobody a = split (ltb a 64)
  where
    split : (t : Bool) → pick t (bit 0 a) (bit 0 (a - 64)) ≡ false
    split true = bit_zero a
    split false = bit_zero (a - 64)

-- nobody holds no stake
pub stake_nobody : (c : Committee) (i : AuthorityIndex) → stake_from i c nobody ≡ 0
unfolding stake_from
stake_nobody [] i = refl
stake_nobody (s ∷ c) i = rw (member_nobody i, stake_nobody c (i + 1))

-- in the union of two sets is who is in one of them
pub member_united : (v w : AuthoritySet) (a : AuthorityIndex) → member (united v w) a ≡ member v a || member w a
unfolding member united
member_united v w a = split (dec_lt a 64)
  where
    split : Dec (a < 64) → member (united v w) a ≡ member v a || member w a
    split (yes h) = rw (lt-ltb a 64 h) (bit_or_lem v.low w.low a)
    split (no h) = rw (le-ltb a 64 (omega arith)) (bit_or_lem v.high w.high (a - 64))

-- inserting puts in one author and no other
pub member_inserted : (v : AuthoritySet) (a b : AuthorityIndex) → member (inserted v a) b ≡ member v b || eqb b a
unfolding member inserted
member_inserted v a b = split (dec_lt a 64) (dec_lt b 64)
  where
    split : Dec (a < 64) → Dec (b < 64) → member (inserted v a) b ≡ member v b || eqb b a
    split (yes h) (yes k) = rw (lt-ltb a 64 h, lt-ltb b 64 k, bit_or_lem v.low (2 ^ a) b, bit_pow a b)
    split (yes h) (no k) = rw (lt-ltb a 64 h, le-ltb b 64 (omega arith), ne_eqb b a (λ e. omega arith)) (sym (or-false _))
    split (no h) (yes k) = rw (le-ltb a 64 (omega arith), lt-ltb b 64 k, ne_eqb b a (λ e. omega arith)) (sym (or-false _))
    split (no h) (no k) = rw (
      le-ltb a 64 (omega arith),
      le-ltb b 64 (omega arith),
      bit_or_lem v.high (2 ^ (a - 64)) (b - 64),
      bit_pow (a - 64) (b - 64),
      shifted,
    )
      where
        shifted : eqb (b - 64) (a - 64) ≡ eqb b a
        shifted = same_test (eqb (b - 64) (a - 64)) (eqb b a) (λ e. eq-eqb b a (omega (arith, eqb-true (b - 64) (a - 64) e)))
            (λ e. eq-eqb (b - 64) (a - 64) (omega (arith, eqb-true b a e)))

-- in the set of a list is who stands in the list
pub member_set_of : (as' : List AuthorityIndex) (b : AuthorityIndex) → member (set_of as') b ≡ any_of (eqb b) as'
unfolding set_of any_of
member_set_of [] b = member_nobody b
member_set_of (a ∷ as') b = rw (member_inserted (set_of as') a b, member_set_of as' b) (or_comm (any_of (eqb b) as') (eqb b a))
