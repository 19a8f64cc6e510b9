-- Who is in one vote set and not in another. Assumes nothing.
use mathlib.Core.Path.{◌≡◌}
use mathlib.Core.Bool.{not, ◌&&◌}
use mathlib.Core.Logic.{◌⊎◌, inl, inr}
use Prim.Native.Nat.{ℕ, ◌-◌, ◌/◌, ◌%◌, ◌^◌, ◌<◌, min}
use native.Mathlib.Nat.{mod-lt}
use native.Mathlib.Omega.{arith}
use native.Mathlib.Decide.{dec_lt}
use lib.Dec.{eqb}
use lib.Arith.{digits_mod}
use lib.Bits.{differ, bit_and, bit_xor, and_step, xor_step, and_shr, xor_shr, and_zero_r, xor_zero_r}
use borrow.Author.Tests.{lt-ltb, le-ltb}
use Rattle.committee.specs.Committee.{AuthorityIndex}
use Rattle.committee_set.specs.AuthoritySet.{AuthoritySet, nobody, bit, member, without}
use Rattle.committee_set.proofs.Bits.{two_pos, digit}

min_two : (a b : ℕ) → a < 2 → b < 2 → min a b < 2
min_two a b h k = omega arith

differ_two : (a b : ℕ) → (a ≡ 0) ⊎ (a ≡ 1) → (b ≡ 0) ⊎ (b ≡ 1) → differ a b < 2
differ_two a b (inl p) (inl q) = rw (p, q) (omega arith)
differ_two a b (inl p) (inr q) = rw (p, q) (omega arith)
differ_two a b (inr p) (inl q) = rw (p, q) (omega arith)
differ_two a b (inr p) (inr q) = rw (p, q) (omega arith)

pub and_low : (a b : ℕ) → bit_and a b % 2 ≡ min (a % 2) (b % 2)
and_low a b = rw and_step (digits_mod _ (min_two _ _ (mod-lt a two_pos) (mod-lt b two_pos)))

xor_low : (a b : ℕ) → bit_xor a b % 2 ≡ differ (a % 2) (b % 2)
xor_low a b = rw xor_step (digits_mod _ (differ_two _ _ (digit _ (mod-lt a two_pos)) (digit _ (mod-lt b two_pos))))

-- a bit of a word less another is set where it is set in the first and not in the second
pub bit_less : (a b i : ℕ) → bit (bit_xor a (bit_and a b)) i ≡ bit a i && not (bit b i)
unfolding bit
bit_less a b i =
    rw (xor_shr, and_shr, xor_low (a / 2 ^ i) (bit_and (a / 2 ^ i) (b / 2 ^ i)), and_low (a / 2 ^ i) (b / 2 ^ i))
    (both _ _ (digit _ (mod-lt (a / 2 ^ i) two_pos)) (digit _ (mod-lt (b / 2 ^ i) two_pos)))
  where
    both : (d e : ℕ) → (d ≡ 0) ⊎ (d ≡ 1) → (e ≡ 0) ⊎ (e ≡ 1) → eqb (differ d (min d e)) 1 ≡ eqb d 1 && not (eqb e 1)
    both d e (inl p) (inl q) = rw (p, q)
    both d e (inl p) (inr q) = rw (p, q)
    both d e (inr p) (inl q) = rw (p, q)
    both d e (inr p) (inr q) = rw (p, q)

-- in the first set less the second is who is in the first and not in the second
pub member_without : (v w : AuthoritySet) (a : AuthorityIndex) → member (without v w) a ≡ member v a && not (member w a)
unfolding member without
member_without v w a = split (dec_lt a 64)
  where
    split : Dec (a < 64) → member (without v w) a ≡ member v a && not (member w a)
    split (yes h) = rw (lt-ltb a 64 h) (bit_less v.low w.low a)
    split (no h) = rw (le-ltb a 64 (omega arith)) (bit_less v.high w.high (a - 64))

-- less nobody, a set is as it was
pub without_nobody : (v : AuthoritySet) → without v nobody ≡ v
unfolding without
without_nobody v =
    let e : bit_xor v.low (bit_and v.low 0) ≡ v.low = rw (and_zero_r v.low) (xor_zero_r v.low) in
    let f : bit_xor v.high (bit_and v.high 0) ≡ v.high = rw (and_zero_r v.high) (xor_zero_r v.high) in
    λ i. record { low = e i; high = f i }
