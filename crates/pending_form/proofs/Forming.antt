-- A table in form, as the code tests it: layout, order, votes. Assumes nothing.
use mathlib.Core.Path.{◌≡◌, refl, sym, ap, ◌∙◌}
use mathlib.Core.Logic.{◌⊎◌, inl, inr}
use mathlib.Core.Bool.{Bool, true, false, not, ◌&&◌, ◌||◌}
use mathlib.Core.List.{List, [], map}
use Prim.Native.Nat.{ℕ, zero, suc, ◌+◌, ◌-◌, ◌*◌, ◌/◌, ◌%◌, ◌≤◌, ◌<◌}
use native.Mathlib.Nat.{add-zero}
use native.Mathlib.Omega.{arith}
use native.Mathlib.Decide.{dec_lt, ℕ_discrete}
use lib.Dec.{ltb, eqb}
use lib.ListN.{length, get_or, drop, length-drop, length-map, get_or-eq_default}
use lib.Seq.{get_or-drop}
use borrow.Author.Tests.{lt-ltb, ltb-true, ltb-false, eq-eqb, ne_eqb, eqb-true}
use Rattle.base.specs.Lists.{any_of, all_of, pairwise, same, count_from}
use Rattle.base.proofs.Tests.{and_left, and_right, or_cases, fails, not_both}
use Rattle.base.proofs.Lists.{pairwise_pairs, pairs_pairwise, length_count_from}
use Rattle.base.proofs.Orders.{same_true, same_refl}
use Rattle.base.proofs.Places.{pairs_places}
use Rattle.base.proofs.Index.{any_no, any_at, all_yes, all_at, all_and, at_pairs}
use Rattle.committee.specs.Committee.{Committee}
use Rattle.committee_aggregator.specs.StakeAggregator.{aggregator_in_order}
use Rattle.store_spec.specs.Layout.{Entry}
use Rattle.pending_spec.specs.Items.{Item, no_item, item_before, item_full}
use Rattle.pending_spec.specs.Table.{table_of, items_of, Laid, item_stored, item_in_order, table_in_order, table_formed, table_stored, item_from}
use Rattle.pending_words.specs.Step.{slot, stands_at}
use Rattle.pending_spec.proofs.Items.{before_facts, before_from}
use Rattle.pending_spec.proofs.Table.{items_of_table_of}
use Rattle.pending_words.proofs.Slots.{from_same, word_same, Holding, table_holding, holding_table}

-- ---- layout

-- past its items a table is zero
zero_words : (t : List ℕ) (xs : List Item) → Holding t xs → (i : ℕ) → 6 * length xs < i → get_or t i 0 ≡ 0
unfolding item_from
zero_words t xs h i l =
    let j : ℕ = (i - 1) / 6 in
    let k : ℕ = (i - 1) % 6 in
    let e : i ≡ 6 * j + 1 + k = omega arith in
    rw e (word_same t [] (6 * j + 1) 0 k (omega arith) (h.items j ∙ get_or-eq_default xs no_item (omega arith)))

past_slot : (t : List ℕ) (n : ℕ) → ((i : ℕ) → 6 * n < i → get_or t i 0 ≡ 0) → (j : ℕ) → n ≤ j → slot t j ≡ no_item
unfolding item_from
past_slot t n f j h = from_same t [] (6 * j + 1) 0 (λ k l. f (6 * j + 1 + k) (omega arith))

get_d_counted : (f : ℕ → Item) (i n j : ℕ) → j < n → get_or (map f (count_from i n)) j no_item ≡ f (i + j)
unfolding count_from
get_d_counted f i zero j h = absurd (omega arith)
get_d_counted f i (suc n) zero h = rw (add-zero i)
get_d_counted f i (suc n) (suc j) h = let e : i + 1 + j ≡ i + suc j = omega arith in rw e at (get_d_counted f (i + 1) n j (omega arith))

-- a count that fits, and zero past it: the table holds what stands in it
pub laid_yes : (t : List ℕ) → 6 * get_or t 0 0 < length t → ((i : ℕ) → 6 * get_or t 0 0 < i → get_or t i 0 ≡ 0) → Laid t
laid_yes t h f = e ∙ ap (λ xs. table_of (length t) xs) (sym (ap items_of e ∙ items_of_table_of (length t) ys))
  where
    n : ℕ
    n = get_or t 0 0

    ys : List Item
    ys = map (slot t) (count_from 0 n)

    many : length ys ≡ n
    many = length-map (count_from 0 n) (slot t) ∙ length_count_from 0 n

    at : (j : ℕ) → Dec (j < n) → slot t j ≡ get_or ys j no_item
    at j (yes l) = let e : 0 + j ≡ j = omega arith in sym (rw e at (get_d_counted (slot t) 0 n j l))
    at j (no l) = past_slot t n f j (omega arith) ∙ sym (get_or-eq_default ys no_item (omega (arith, many)))

    e : t ≡ table_of (length t) ys
    e = holding_table t ys record { count = sym many; fits = omega (arith, many); items = λ j. at j (dec_lt j n) }

-- what the layout says of the words
pub laid_fits : (t : List ℕ) → Laid t → 6 * get_or t 0 0 < length t
laid_fits t e = let h = table_holding t (items_of t) e in omega (arith, h.fits, h.count)

pub laid_zero : (t : List ℕ) → Laid t → (i : ℕ) → 6 * get_or t 0 0 < i → get_or t i 0 ≡ 0
laid_zero t e i l = let h = table_holding t (items_of t) e in zero_words t (items_of t) h i (omega (arith, h.count))

pub same_laid : (t : List ℕ) → same t (table_of (length t) (items_of t)) ≡ true → Laid t
same_laid t h = same_true t (table_of (length t) (items_of t)) h

pub laid_same : (t : List ℕ) → Laid t → same t (table_of (length t) (items_of t)) ≡ true
laid_same t e = ap (λ u. same t u) (sym e) ∙ same_refl t

-- no word from an index on is above zero
pub all_zero : (t : List ℕ) (n : ℕ) → any_of (ltb 0) (drop n t) ≡ false → (i : ℕ) → n ≤ i → get_or t i 0 ≡ 0
all_zero t n h i l = go (dec_lt i (length t))
  where
    go : Dec (i < length t) → get_or t i 0 ≡ 0
    go (no k) = get_or-eq_default t 0 (omega arith)
    go (yes k) =
        let e : n + (i - n) ≡ i = omega arith in
        let d : get_or (drop n t) (i - n) 0 ≡ get_or t i 0 = get_or-drop n t (i - n) 0 ∙ rw e in
        omega (
          arith,
          ltb-false 0 (get_or t i 0) (fails (ltb 0 (get_or t i 0))
              (λ a. not_both (any_at 0 (ltb 0) (drop n t) (i - n) (omega (arith, length-drop n t)) (rw d a)) h)),
        )

pub zero_all : (t : List ℕ) (n : ℕ) → ((i : ℕ) → n ≤ i → get_or t i 0 ≡ 0) → any_of (ltb 0) (drop n t) ≡ false
zero_all t n f = any_no 0 (ltb 0) (drop n t) (λ i h. rw (get_or-drop n t i 0, f (n + i) (omega arith)))

-- the tests of the code are that of the layout
pub laid_tests : (t : List ℕ) → 6 * get_or t 0 0 < length t → not (any_of (ltb 0) (drop (6 * get_or t 0 0 + 1) t)) ≡ same t (table_of (length t) (items_of t))
laid_tests t h = go (any_of (ltb 0) (drop (6 * get_or t 0 0 + 1) t)) refl
  where
    go : (b : Bool) → any_of (ltb 0) (drop (6 * get_or t 0 0 + 1) t) ≡ b → not b ≡ same t (table_of (length t) (items_of t))
    go false e = sym (laid_same t (laid_yes t h (λ i (l : 6 * get_or t 0 0 < i). all_zero t (6 * get_or t 0 0 + 1) e i (omega arith))))
    go true e =
        sym (fails (same t (table_of (length t) (items_of t)))
        (λ k. not_both e (zero_all t (6 * get_or t 0 0 + 1) (λ i (l : 6 * get_or t 0 0 + 1 ≤ i). laid_zero t (same_laid t k) i (omega arith)))))

pub laid_no : (t : List ℕ) → length t ≤ 6 * get_or t 0 0 → same t (table_of (length t) (items_of t)) ≡ false
laid_no t h = fails (same t (table_of (length t) (items_of t))) (λ k. omega (arith, laid_fits t (same_laid t k)))

-- ---- order

stands_facts : (xs : List Item) (k : ℕ) → stands_at xs k ≡ true → ((get_or xs k no_item).start < (get_or xs k no_item).end) ×
    ((k ≡ 0) ⊎ (item_before (get_or xs (k - 1) no_item) (get_or xs k no_item) ≡ true))
unfolding stands_at item_full
stands_facts xs k h =
    let x = get_or xs k no_item in (
      ltb-true _ _ (and_left (ltb x.start x.end) _ h),
      go (or_cases (eqb k 0) (item_before (get_or xs (k - 1) no_item) x)
          (and_right (ltb x.start x.end) _ h)),
    )
  where
    go : (eqb k 0 ≡ true) ⊎ (item_before (get_or xs (k - 1) no_item) (get_or xs k no_item) ≡ true) → (k ≡ 0) ⊎
        (item_before (get_or xs (k - 1) no_item) (get_or xs k no_item) ≡ true)
    go (inl e) = inl (eqb-true k 0 e)
    go (inr e) = inr e

item_before_trans : (x y z : Item) → item_before x y ≡ true → y.start < y.end → item_before y z ≡ true → item_before x z ≡ true
item_before_trans x y z a f b = before_from x z (go (before_facts x y a) (before_facts y z b))
  where
    go : (x.position < y.position) ⊎ ((x.position ≡ y.position) × (x.end ≤ y.start)) → (y.position < z.position) ⊎
        ((y.position ≡ z.position) × (y.end ≤ z.start))
        → (x.position < z.position) ⊎ ((x.position ≡ z.position) × (x.end ≤ z.start))
    go (inl h) (inl k) = inl (omega arith)
    go (inl h) (inr k) = inl (omega (arith, k.0))
    go (inr h) (inl k) = inl (omega (arith, h.0))
    go (inr h) (inr k) = inr (h.0 ∙ k.0, omega (arith, h.1, k.1))

module _ (xs : List Item) (f : (k : ℕ) → k < length xs → stands_at xs k ≡ true) where
  before_later : (i d : ℕ) → i + 1 + d < length xs → item_before (get_or xs i no_item) (get_or xs (i + 1 + d) no_item) ≡ true
  before_later i zero h = last (stands_facts xs (i + 1) (f (i + 1) (omega arith))).1
    where
      last : (i + 1 ≡ 0) ⊎ (item_before (get_or xs (i + 1 - 1) no_item) (get_or xs (i + 1) no_item) ≡ true) → item_before (get_or xs i no_item)
          (get_or xs (i + 1 + 0) no_item) ≡ true
      last (inl e) = absurd (omega arith)
      last (inr e) =
          let a : i + 1 - 1 ≡ i = omega arith in
          let b : i + 1 + 0 ≡ i + 1 = omega arith in
          rw b (rw a at e)
  before_later i (suc d) h = step (before_later i d (omega arith)) (stands_facts xs (i + 1 + suc d) (f (i + 1 + suc d) h)).1
    where
      step : item_before (get_or xs i no_item) (get_or xs (i + 1 + d) no_item) ≡ true
          → (i + 1 + suc d ≡ 0) ⊎ (item_before (get_or xs (i + 1 + suc d - 1) no_item) (get_or xs (i + 1 + suc d) no_item) ≡ true)
          → item_before (get_or xs i no_item) (get_or xs (i + 1 + suc d) no_item) ≡ true
      step a (inl e) = absurd (omega arith)
      step a (inr e) =
          let b : i + 1 + suc d - 1 ≡ i + 1 + d = omega arith in
          item_before_trans (get_or xs i no_item) (get_or xs (i + 1 + d) no_item) (get_or xs (i + 1 + suc d) no_item) a
          (stands_facts xs (i + 1 + d) (f (i + 1 + d) (omega arith))).0 (rw b at e)

  pub stand_all : pairwise item_before xs && all_of item_full xs ≡ true
  unfolding item_full
  stand_all = rw (
    pairs_pairwise item_before xs (at_pairs no_item xs (λ i j h k. pair i j h k)),
    all_yes no_item item_full xs
        (λ i h. lt-ltb _ _ (stands_facts xs i (f i h)).0),
  )
    where
      pair : (i j : ℕ) → i < j → j < length xs → item_before (get_or xs i no_item) (get_or xs j no_item) ≡ true
      pair i j h k = let e : i + 1 + (j - i - 1) ≡ j = omega arith in rw e at (before_later i (j - i - 1) (omega arith))

pub stands_not : (xs : List Item) (k : ℕ) → k < length xs → stands_at xs k ≡ false → pairwise item_before xs && all_of item_full xs ≡ false
unfolding stands_at
stands_not xs k h e = fails (pairwise item_before xs && all_of item_full xs) (λ a. not_both (stands a (ℕ_discrete k 0)) e)
  where
    stands : pairwise item_before xs && all_of item_full xs ≡ true → Dec (k ≡ 0) → item_full (get_or xs k no_item) &&
        (eqb k 0 || item_before (get_or xs (k - 1) no_item) (get_or xs k no_item)) ≡ true
    stands a (yes z) = rw (all_at no_item item_full xs (and_right (pairwise item_before xs) _ a) k h, eq-eqb k 0 z)
    stands a (no z) =
        rw (
          all_at no_item item_full xs (and_right (pairwise item_before xs) _ a) k h,
          ne_eqb k 0 z,
          pairs_places no_item xs (k - 1) k (pairwise_pairs item_before xs (and_left (pairwise item_before xs) _ a)) (omega arith) h,
        )

-- ---- 11: the part that needs no store, and the part that does

pub order_parts : (c : Committee) (es : List Entry) (t : List ℕ) → table_in_order c es t ≡ table_formed c t && table_stored es t
unfolding table_in_order table_formed table_stored item_in_order
order_parts c es t =
    rw (
      all_and item_full (λ x. item_stored es x && aggregator_in_order c x.aggregator) (items_of t),
      all_and (item_stored es)
          (λ x. aggregator_in_order c x.aggregator) (items_of t),
    )
    (go (same t (table_of (length t) (items_of t))) (pairwise item_before (items_of t)) (all_of item_full (items_of t)) (all_of (item_stored es) (items_of t))
    (all_of (λ x. aggregator_in_order c x.aggregator) (items_of t)))
  where
    go : (l o f s v : Bool) → l && (o && (f && (s && v))) ≡ (l && (o && (f && v))) && s
    go false o f s v = refl
    go true false f s v = refl
    go true true false s v = refl
    go true true true false false = refl
    go true true true false true = refl
    go true true true true false = refl
    go true true true true true = refl

-- in the order in which the code tests
pub formed_tests : (c : Committee) (t : List ℕ) (l o v : Bool) → l ≡ same t (table_of (length t) (items_of t)) →
    (l ≡ true → o ≡ pairwise item_before (items_of t) && all_of item_full (items_of t))
    → (l ≡ true → o ≡ true → v ≡ all_of (λ x. aggregator_in_order c x.aggregator) (items_of t)) → l && (o && v) ≡ table_formed c t
unfolding table_formed
formed_tests c t false o v e f g = rw (← e)
formed_tests c t true false v e f g = rw (← e) (go (pairwise item_before (items_of t)) (all_of item_full (items_of t)) _ (f refl))
  where
    go : (a b d : Bool) → false ≡ a && b → false ≡ a && (b && d)
    go false b d h = refl
    go true false d h = refl
    go true true d h = absurd (not_both refl (sym h))
formed_tests c t true true v e f g = rw (← e, g refl refl) (go (pairwise item_before (items_of t)) (all_of item_full (items_of t)) _ (f refl))
  where
    go : (a b d : Bool) → true ≡ a && b → d ≡ a && (b && d)
    go false b d h = absurd (not_both refl h)
    go true false d h = absurd (not_both refl h)
    go true true d h = refl
