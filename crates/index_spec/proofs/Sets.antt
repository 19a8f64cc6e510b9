-- Vote sets put together in any order, and told apart from nobody. Assumes nothing.
use mathlib.Core.Path.{◌≡◌, sym, ap, ◌∙◌}
use mathlib.Core.Bool.{true}
use Prim.Native.Nat.{ℕ, ◌-◌, ◌^◌, ◌≤◌, ◌<◌}
use native.Mathlib.Omega.{arith}
use native.Mathlib.Decide.{dec_lt}
use lib.Dec.{eqb}
use lib.Pow.{pow_pos}
use lib.Bits.{bit_or, or_zero_l, or_comm, or_self, or_add_and, and_le_r}
use borrow.Author.Tests.{lt-ltb, le-ltb, eq-eqb, eqb-true}
use Rattle.base.proofs.Tests.{and_both, and_left, and_right}
use Rattle.committee.specs.Committee.{AuthorityIndex}
use Rattle.committee_set.specs.AuthoritySet.{AuthoritySet, nobody, inserted, united}
use Rattle.committee_set.proofs.Words.{united_assoc}
use Rattle.index_spec.specs.Runs.{same_voters}

pub united_comm : (v w : AuthoritySet) → united v w ≡ united w v
unfolding united
united_comm v w =
    let e = or_comm v.low w.low in
    let f = or_comm v.high w.high in
    λ i. record { low = e i; high = f i }

pub united_self : (v : AuthoritySet) → united v v ≡ v
unfolding united
united_self v =
    let e = or_self v.low in
    let f = or_self v.high in
    λ i. record { low = e i; high = f i }

pub united_swap : (u v w : AuthoritySet) → united u (united v w) ≡ united v (united u w)
united_swap u v w = sym (united_assoc u v w) ∙ ap (λ (x : AuthoritySet). united x w) (united_comm u v) ∙ united_assoc v u w

-- the first and second of two sets stand in their union
or_grows : (a b : ℕ) → a ≤ bit_or a b
or_grows a b = omega (arith, or_add_and a b, and_le_r a b)

pub united_nobody_left : (v w : AuthoritySet) → united v w ≡ nobody → v ≡ nobody
unfolding united
united_nobody_left v w h =
    let l : bit_or v.low w.low ≡ 0 = ap (λ (x : AuthoritySet). x.low) h in
    let k : bit_or v.high w.high ≡ 0 = ap (λ (x : AuthoritySet). x.high) h in
    let e : v.low ≡ 0 = omega (arith, or_grows v.low w.low) in
    let f : v.high ≡ 0 = omega (arith, or_grows v.high w.high) in
    λ i. record { low = e i; high = f i }

-- one author is not nobody
pub one_not_nobody : (a : AuthorityIndex) → inserted nobody a ≡ nobody → ⊥
unfolding inserted
one_not_nobody a h = split (dec_lt a 64)
  where
    split : Dec (a < 64) → ⊥
    split (yes k) =
        let e : bit_or 0 (2 ^ a) ≡ 0 = ap (λ (x : AuthoritySet). x.low) (rw (lt-ltb a 64 k) at h) in
        omega (arith, pow_pos a, or_zero_l (2 ^ a))
    split (no k) =
        let e : bit_or 0 (2 ^ (a - 64)) ≡ 0 = ap (λ (x : AuthoritySet). x.high) (rw (le-ltb a 64 (omega arith)) at h) in
        omega (arith, pow_pos (a - 64), or_zero_l (2 ^ (a - 64)))

pub same_voters_lem : (v w : AuthoritySet) → same_voters v w ≡ true → v ≡ w
unfolding same_voters
same_voters_lem v w h =
    let e = eqb-true v.low w.low (and_left (eqb v.low w.low) _ h) in
    let f = eqb-true v.high w.high (and_right (eqb v.low w.low) _ h) in
    λ i. record { low = e i; high = f i }

pub voters_same : (v w : AuthoritySet) → v ≡ w → same_voters v w ≡ true
unfolding same_voters
voters_same v w e = and_both (eqb v.low w.low) _ (eq-eqb v.low w.low (ap (λ (x : AuthoritySet). x.low) e))
    (eq-eqb v.high w.high (ap (λ (x : AuthoritySet). x.high) e))
