-- Vote sets in two words of 64 bits are told apart by their members. Assumes nothing.
use mathlib.Core.Path.{◌≡◌, sym, ◌∙◌}
use mathlib.Core.Logic.{◌⊎◌, inl, inr}
use mathlib.Core.Bool.{or_assoc as test-assoc}
use Prim.Native.Nat.{ℕ, zero, suc, ◌+◌, ◌-◌, ◌*◌, ◌/◌, ◌%◌, ◌^◌, ◌≤◌, ◌<◌}
use native.Mathlib.Nat.{mod-lt, div-one, pow-suc}
use native.Mathlib.Omega.{arith}
use native.Mathlib.Decide.{dec_lt}
use lib.Dec.{eqb}
use lib.Pow.{pow_pos, pow-lt, shr-shr}
use lib.Bits.{bit_or, or_lt, or_zero_l, or_zero_r}
use borrow.Author.Tests.{lt-ltb, le-ltb, eq-eqb, eqb-true}
use Rattle.committee.specs.Committee.{AuthorityIndex}
use Rattle.committee_set.specs.AuthoritySet.{AuthoritySet, nobody, bit, member, inserted, united}
use Rattle.committee_set.proofs.Bits.{two_pos, digit, bit_or_lem}

pub bit_first : (w : ℕ) → bit w 0 ≡ eqb (w % 2) 1
unfolding bit
bit_first w = rw (div-one w)

pub bit_next : (w i : ℕ) → bit w (suc i) ≡ bit (w / 2) i
unfolding bit
bit_next w i =
    let e : suc i ≡ 1 + i = omega arith in
    rw (e, ← shr-shr w 1 i)

-- words that agree in every bit are equal
pub word_ext : (n x y : ℕ) → x < 2 ^ n → y < 2 ^ n → ((i : ℕ) → i < n → bit x i ≡ bit y i) → x ≡ y
word_ext zero x y h k f = omega arith
word_ext (suc n) x y h k f =
    let p : 2 ^ suc n ≡ 2 ^ n * 2 = pow-suc 2 n in
    let halves : x / 2 ≡ y / 2 = word_ext n (x / 2) (y / 2) (omega arith) (omega arith) (λ i l. sym (bit_next x i) ∙ f (suc i) (omega arith) ∙ bit_next y i) in
    let ends : x % 2 ≡ y % 2 = last (digit (x % 2) (mod-lt x two_pos)) (digit (y % 2) (mod-lt y two_pos))
    (sym (bit_first x) ∙ f 0 (omega arith) ∙ bit_first y) in
    omega arith
  where
    last : {d e : ℕ} → (d ≡ 0) ⊎ (d ≡ 1) → (e ≡ 0) ⊎ (e ≡ 1) → eqb d 1 ≡ eqb e 1 → d ≡ e
    last (inl p) (inl q) t = p ∙ sym q
    last {d} {e} (inl p) (inr q) t = eqb-true d 1 (t ∙ eq-eqb e 1 q) ∙ sym q
    last {d} {e} (inr p) (inl q) t = p ∙ sym (eqb-true e 1 (sym t ∙ eq-eqb d 1 p))
    last (inr p) (inr q) t = p ∙ sym q

-- both words have 64 bits
pub record Small (v : AuthoritySet) : Type 0 where
  pub low : v.low < 2 ^ 64
  pub high : v.high < 2 ^ 64

pub small_nobody : Small nobody
small_nobody = record { low = pow_pos 64; high = pow_pos 64 }

pub small_united : (v w : AuthoritySet) → Small v → Small w → Small (united v w)
unfolding united
small_united v w h k = record { low = or_lt 64 v.low w.low h.low k.low; high = or_lt 64 v.high w.high h.high k.high }

pub small_inserted : (v : AuthoritySet) (a : AuthorityIndex) → a < 128 → Small v → Small (inserted v a)
unfolding inserted
small_inserted v a l h = split (dec_lt a 64)
  where
    split : Dec (a < 64) → Small (inserted v a)
    split (yes k) = rw (lt-ltb a 64 k) (record { low = or_lt 64 v.low (2 ^ a) h.low (pow-lt k); high = h.high })
    split (no k) =
        let below : a - 64 < 64 = omega arith in
        rw (le-ltb a 64 (omega arith)) (record { low = h.low; high = or_lt 64 v.high (2 ^ (a - 64)) h.high (pow-lt below) })

-- sets with the same members are equal
pub set_ext : (v w : AuthoritySet) → Small v → Small w → ((a : AuthorityIndex) → a < 128 → member v a ≡ member w a) → v ≡ w
unfolding member
set_ext v w h k f = λ i. record { low = lows i; high = highs i }
  where
    at_low : (u : AuthoritySet) (i : ℕ) → i < 64 → member u i ≡ bit u.low i
    at_low u i l = rw (lt-ltb i 64 l)

    at_high : (u : AuthoritySet) (i : ℕ) → member u (64 + i) ≡ bit u.high i
    at_high u i = let e : 64 + i - 64 ≡ i = omega arith in rw (le-ltb (64 + i) 64 (omega arith), e)

    lows : v.low ≡ w.low
    lows = word_ext 64 v.low w.low h.low k.low (λ i l. sym (at_low v i l) ∙ f i (omega arith) ∙ at_low w i l)

    highs : v.high ≡ w.high
    highs = word_ext 64 v.high w.high h.high k.high (λ i l. sym (at_high v i) ∙ f (64 + i) (omega arith) ∙ at_high w i)

-- every number fits some word
fits : (n : ℕ) → n < 2 ^ n
fits zero = omega arith
fits (suc n) = let p : 2 ^ suc n ≡ 2 ^ n * 2 = pow-suc 2 n in omega (arith, fits n)

or_assoc : (a b c : ℕ) → bit_or (bit_or a b) c ≡ bit_or a (bit_or b c)
or_assoc a b c =
    let n : ℕ = a + b + c in
    let x : a < 2 ^ n = wide a (omega arith) in
    let y : b < 2 ^ n = wide b (omega arith) in
    let z : c < 2 ^ n = wide c (omega arith) in
    word_ext n (bit_or (bit_or a b) c) (bit_or a (bit_or b c)) (or_lt n (bit_or a b) c (or_lt n a b x y) z) (or_lt n a (bit_or b c) x (or_lt n b c y z)) (λ i l.
    rw (bit_or_lem (bit_or a b) c i, bit_or_lem a b i, bit_or_lem a (bit_or b c) i, bit_or_lem b c i) (test-assoc (bit a i) (bit b i) (bit c i)))
  where
    wide : (m : ℕ) → m ≤ a + b + c → m < 2 ^ (a + b + c)
    wide m k = omega (arith, fits (a + b + c))

-- unions may be taken in any grouping
pub united_assoc : (u v w : AuthoritySet) → united (united u v) w ≡ united u (united v w)
unfolding united
united_assoc u v w =
    let e = or_assoc u.low v.low w.low in
    let f = or_assoc u.high v.high w.high in
    λ i. record { low = e i; high = f i }

pub nobody_united : (v : AuthoritySet) → united nobody v ≡ v
unfolding united
nobody_united v =
    let e = or_zero_l v.low in
    let f = or_zero_l v.high in
    λ i. record { low = e i; high = f i }

pub united_nobody : (v : AuthoritySet) → united v nobody ≡ v
unfolding united
united_nobody v =
    let e = or_zero_r v.low in
    let f = or_zero_r v.high in
    λ i. record { low = e i; high = f i }
