-- The rank as one weight: the stake, and below it a power of two that the lower number has larger. Of two sets of as many owners the one
-- whose members come first has the larger sum of powers. Assumes nothing.
use mathlib.Core.Path.{◌≡◌, sym, ap}
use mathlib.Core.Logic.{◌⊎◌, inl, inr}
use mathlib.Core.Bool.{true, false, ◌&&◌, true≢false}
use mathlib.Core.List.{List, [], ◌∷◌}
use Prim.Native.Nat.{ℕ, suc, ◌+◌, ◌-◌, ◌*◌, ◌^◌, ◌≤◌, ◌<◌}
use native.Mathlib.Nat.{pow-suc, suc_inj, suc-mul, add-mul, mul-le-mul_right}
use native.Mathlib.Omega.{arith}
use native.Mathlib.Decide.{dec_lt}
use lib.Dec.{ltb, eqb}
use lib.ListN.{length}
use lib.Pow.{pow_pos, pow_mono}
use borrow.Author.Tests.{lt-ltb, ltb-true, ltb-false, eqb-true, eq-eqb}
use Rattle.base.specs.Lists.{before}
use Rattle.base.proofs.Tests.{or_cases, and_left, and_right, and_both, not_both, neither_left, neither_right}
use Rattle.committee.specs.Committee.{AuthorityIndex, Committee, get_stake}
use Rattle.ring_owners.specs.Ranked.{ahead}
use Rattle.ring_owners.proofs.Totals.{total}
use Rattle.ring_owners.proofs.Ranking.{Fits}

unfoldable pub bonus : AuthorityIndex → ℕ
bonus a = 2 ^ (128 - a)

-- 2 ^ 128, above every bonus
unfoldable pub scale : ℕ
scale = 2 ^ 128

-- a stake more is a scale more
scaled : (s t : ℕ) → s < t → s * scale + scale ≤ t * scale
scaled s t h = rw (← suc-mul s scale) (mul-le-mul_right scale h)

unfoldable pub weight : Committee → AuthorityIndex → ℕ
weight c a = get_stake c a * scale + bonus a

-- ---- both the stake and the weight go with the rank

data Order (c : Committee) (a b : AuthorityIndex) : Type 0 where
  richer : get_stake c b < get_stake c a → Order c a b
  level : get_stake c b ≡ get_stake c a → a ≤ b → Order c a b

ahead_order : (c : Committee) (a b : AuthorityIndex) → ahead c a b ≡ true → Order c a b
unfolding ahead
ahead_order c a b h = go (or_cases (ltb (get_stake c b) (get_stake c a)) _ h)
  where
    go : (ltb (get_stake c b) (get_stake c a) ≡ true) ⊎ (eqb (get_stake c b) (get_stake c a) && ltb a b ≡ true) → Order c a b
    go (inl k) = richer (ltb-true (get_stake c b) (get_stake c a) k)
    go (inr k) =
        let l : a < b = ltb-true a b (and_right (eqb (get_stake c b) (get_stake c a)) _ k) in
        level (eqb-true (get_stake c b) (get_stake c a) (and_left (eqb (get_stake c b) (get_stake c a)) _ k)) (omega arith)

behind_order : (c : Committee) (a b : AuthorityIndex) → ahead c a b ≡ false → Order c b a
unfolding ahead
behind_order c a b h = go (dec_lt (get_stake c a) (get_stake c b)) (dec_lt a b)
  where
    most : get_stake c a ≤ get_stake c b
    most = ltb-false (get_stake c b) (get_stake c a) (neither_left (ltb (get_stake c b) (get_stake c a)) _ h)

    go : Dec (get_stake c a < get_stake c b) → Dec (a < b) → Order c b a
    go (yes l) k = richer l
    go (no l) (no k) = level (omega (arith, most)) (omega arith)
    go (no l) (yes k) =
        let e : get_stake c b ≡ get_stake c a = omega (arith, most) in
        absurd (not_both (and_both (eqb (get_stake c b) (get_stake c a)) (ltb a b) (eq-eqb (get_stake c b) (get_stake c a) e) (lt-ltb a b k))
        (neither_right (ltb (get_stake c b) (get_stake c a)) _ h))

bonus_most : (a : AuthorityIndex) → bonus a ≤ scale
unfolding bonus scale
bonus_most a = pow_mono {i = 128 - a} {j = 128} (omega arith)

bonus_falls : (a b : AuthorityIndex) → a ≤ b → bonus b ≤ bonus a
unfolding bonus
bonus_falls a b h = pow_mono {i = 128 - b} {j = 128 - a} (omega arith)

order_stake : (c : Committee) (a b : AuthorityIndex) → Order c a b → get_stake c b ≤ get_stake c a
order_stake c a b (richer h) = omega arith
order_stake c a b (level e h) = omega arith

order_weight : (c : Committee) (a b : AuthorityIndex) → Order c a b → weight c b ≤ weight c a
unfolding weight
order_weight c a b (richer h) = omega (arith, bonus_most b, scaled (get_stake c b) (get_stake c a) h)
order_weight c a b (level e h) = rw e (omega (arith, bonus_falls a b h))

pub stake_fits : (c : Committee) → Fits c (get_stake c)
stake_fits c = record { yes_ahead = λ a b h. order_stake c a b (ahead_order c a b h); not_ahead = λ a b h. order_stake c b a (behind_order c a b h) }

pub weight_fits : (c : Committee) → Fits c (weight c)
weight_fits c = record { yes_ahead = λ a b h. order_weight c a b (ahead_order c a b h); not_ahead = λ a b h. order_weight c b a (behind_order c a b h) }

pub weight_total : (c : Committee) (xs : List AuthorityIndex) → total (weight c) xs ≡ total (get_stake c) xs * scale + total bonus xs
unfolding total weight
weight_total c [] = omega arith
weight_total c (x ∷ xs) = rw (add-mul (get_stake c x) (total (get_stake c) xs) scale) (omega (arith, weight_total c xs))

-- ---- the set whose members come first has the larger sum of powers

-- owners from y on, ascending
pub data Ascends : ℕ → List AuthorityIndex → Type 0 where
  none_left : {y : ℕ} → Ascends y []
  next_up : {y a : ℕ} {xs : List AuthorityIndex} → y ≤ a → a < 128 → Ascends (a + 1) xs → Ascends y (a ∷ xs)

double : (a : AuthorityIndex) → a < 128 → bonus a ≡ 2 * bonus (a + 1)
unfolding bonus
double a h = let e : 128 - a ≡ suc (128 - (a + 1)) = omega arith in rw (e, pow-suc 2 (128 - (a + 1))) (omega arith)

bonus_pos : (a : AuthorityIndex) → 0 < bonus a
unfolding bonus
bonus_pos a = pow_pos (128 - a)

-- owners from y on have less than twice the power of y
few_powers : (y : ℕ) (xs : List AuthorityIndex) → Ascends y xs → total bonus xs < 2 * bonus y
unfolding total
few_powers y [] none_left = omega (arith, bonus_pos y)
few_powers y (a ∷ xs) (next_up h l k) = omega (arith, few_powers (a + 1) xs k, double a l, bonus_falls y a h)

pub first_more : (y : ℕ) (xs ys : List AuthorityIndex) → Ascends y xs → Ascends y ys → length xs ≡ length ys → before xs ys ≡ true → total bonus ys < total
    bonus xs
unfolding before total
first_more y [] [] h k e b = absurd (true≢false (sym b))
first_more y [] (z ∷ zs) h k e b = absurd (omega arith)
first_more y (x ∷ xs) [] h k e b = absurd (omega arith)
first_more y (x ∷ xs) (z ∷ zs) (next_up hx lx h) (next_up hz lz k) e b = go (or_cases (ltb x z) _ b)
    (λ (q : x ≡ z) r. first_more (x + 1) xs zs h (rw q k) (suc_inj e) r)
  where
    go : (ltb x z ≡ true) ⊎ (eqb x z && before xs zs ≡ true) → (x ≡ z → before xs zs ≡ true → total bonus zs < total bonus xs) → bonus z + total bonus zs <
        bonus x + total bonus xs
    go (inl i) ih =
        let l : x < z = ltb-true x z i in
        omega (arith, few_powers (z + 1) zs k, double z lz, double x lx, bonus_falls (x + 1) z (omega arith))
    go (inr i) ih =
        let q : x ≡ z = eqb-true x z (and_left (eqb x z) _ i) in
        omega (arith, ih q (and_right (eqb x z) _ i), ap bonus q)
