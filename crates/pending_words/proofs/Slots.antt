-- A table by the items at its indexes: read, written, and equal where count, items and length are. Assumes nothing.
use mathlib.Core.Path.{◌≡◌, refl, sym, ap, ◌∙◌}
use mathlib.Core.List.{List, [], ◌∷◌, ◌++◌, map, flatten}
use Prim.Native.Nat.{ℕ, zero, suc, ◌+◌, ◌-◌, ◌*◌, ◌/◌, ◌%◌, ◌≤◌, ◌<◌}
use native.Mathlib.Nat.{add-zero}
use native.Mathlib.Omega.{arith}
use native.Mathlib.Decide.{dec_lt}
use lib.ListN.{length, get_or, set, replicate, length-append}
use lib.Seq.{ext_get_or, get_or-set_other, sets}
use borrow.Author.Tests.{ltb-true}
use Rattle.base.proofs.Lists.{Every, every, all_every, pairwise_pairs}
use Rattle.base.proofs.Le.{get_d_sets_below, get_d_sets_above}
use Rattle.base.proofs.Index.{get_d_sets_in}
use Rattle.pending_words.specs.declared.Item as declared
use Rattle.pending_spec.specs.Items.{Item, no_item, item_before, item_full}
use Rattle.pending_spec.specs.Table.{item_words, table_of, items_of, Laid, HoldsItems, item_from}
use Rattle.pending_words.specs.Answers.{as_item}
use Rattle.pending_words.specs.Step.{slot}
use Rattle.pending_spec.proofs.Items.{Ordered}
use Rattle.pending_spec.proofs.Table.{length_words, length_table_of}

-- ---- six words

-- the same words are the same item
pub from_same : (t u : List ℕ) (b d : ℕ) → ((k : ℕ) → k < 6 → get_or t (b + k) 0 ≡ get_or u (d + k) 0) → item_from t b ≡ item_from u d
unfolding item_from
from_same t u b d f =
    let e : get_or t b 0 ≡ get_or u d 0 = rw (add-zero b, add-zero d) at (f 0 (omega arith)) in
    rw (e, f 1 (omega arith), f 2 (omega arith), f 3 (omega arith), f 4 (omega arith), f 5 (omega arith))

-- and the other way round
pub word_same : (t u : List ℕ) (b d k : ℕ) → k < 6 → item_from t b ≡ item_from u d → get_or t (b + k) 0 ≡ get_or u (d + k) 0
unfolding item_from
word_same t u b d zero h e = rw (add-zero b, add-zero d) (ap (λ x. x.position) e)
word_same t u b d (suc zero) h e = ap (λ x. x.start) e
word_same t u b d (suc (suc zero)) h e = ap (λ x. x.end) e
word_same t u b d (suc (suc (suc zero))) h e = ap (λ x. x.aggregator.votes.low) e
word_same t u b d (suc (suc (suc (suc zero)))) h e = ap (λ x. x.aggregator.votes.high) e
word_same t u b d (suc (suc (suc (suc (suc zero))))) h e = ap (λ x. x.aggregator.stake) e
word_same t u b d (suc (suc (suc (suc (suc (suc k)))))) h e = absurd (omega arith)

-- tables of one length with the same count and the same items are the same
pub slots_ext : (t u : List ℕ) → length t ≡ length u → get_or t 0 0 ≡ get_or u 0 0 → ((i : ℕ) → slot t i ≡ slot u i) → t ≡ u
slots_ext t u n c f = ext_get_or 0 t u n (λ k h. here k)
  where
    here : (k : ℕ) → get_or t k 0 ≡ get_or u k 0
    here zero = c
    here (suc k) =
        let e : suc k ≡ 6 * (k / 6) + 1 + k % 6 = omega arith in
        rw e (word_same t u (6 * (k / 6) + 1) (6 * (k / 6) + 1) (k % 6) (omega arith) (f (k / 6)))

-- ---- an item written

module _ (t : List ℕ) (i : ℕ) (x : Item) where
  pub put_count : get_or (sets t (6 * i + 1) (item_words x)) 0 0 ≡ get_or t 0 0
  put_count = get_d_sets_below (item_words x) t (6 * i + 1) 0 (omega arith)

  pub put_same : 6 * i + 7 ≤ length t → slot (sets t (6 * i + 1) (item_words x)) i ≡ x
  unfolding item_from item_words
  put_same h = from_same (sets t (6 * i + 1) (item_words x)) (item_words x) (6 * i + 1) 0 (λ k l. at k l)
    where
      at : (k : ℕ) → k < 6 → get_or (sets t (6 * i + 1) (item_words x)) (6 * i + 1 + k) 0 ≡ get_or (item_words x) (0 + k) 0
      at k l = let e : 0 + k ≡ k = omega arith in rw e (get_d_sets_in (item_words x) t (6 * i + 1) k l (omega arith))

  pub put_other : (j : ℕ) → (j ≡ i → ⊥) → slot (sets t (6 * i + 1) (item_words x)) j ≡ slot t j
  unfolding item_words
  put_other j h = from_same (sets t (6 * i + 1) (item_words x)) t (6 * j + 1) (6 * j + 1) (λ k l. at k l (dec_lt j i))
    where
      at : (k : ℕ) → k < 6 → Dec (j < i) → get_or (sets t (6 * i + 1) (item_words x)) (6 * j + 1 + k) 0 ≡ get_or t (6 * j + 1 + k) 0
      at k l (yes m) = get_d_sets_below (item_words x) t (6 * i + 1) (6 * j + 1 + k) (omega arith)
      at k l (no m) = get_d_sets_above (item_words x) t (6 * i + 1) (6 * j + 1 + k) (omega arith)

-- the count written
pub counted_slot : (t : List ℕ) (n j : ℕ) → slot (set t 0 n) j ≡ slot t j
counted_slot t n j = from_same (set t 0 n) t (6 * j + 1) (6 * j + 1) (λ k l. get_or-set_other t 0 (6 * j + 1 + k) n 0 (λ e. omega arith))

-- ---- a table and the items that it holds

-- the table has these items: the count says how many, and past them all is zero
pub record Holding (t : List ℕ) (xs : List Item) : Type 0 where
  pub count : get_or t 0 0 ≡ length xs
  pub fits : 6 * length xs < length t
  pub items : (i : ℕ) → slot t i ≡ get_or xs i no_item

zeros : (n i : ℕ) → ◌≡◌ {A = ℕ} (get_or (replicate n 0) i 0) 0
zeros zero i = refl
zeros (suc n) zero = refl
zeros (suc n) (suc i) = zeros n i

zero_slot : (c n i : ℕ) → slot (c ∷ replicate n 0) i ≡ no_item
unfolding item_from
zero_slot c n i = from_same (c ∷ replicate n 0) [] (6 * i + 1) 0 (λ k l. at k)
  where
    at : (k : ℕ) → get_or (c ∷ replicate n 0) (6 * i + 1 + k) 0 ≡ 0
    at k = let e : 6 * i + 1 + k ≡ suc (6 * i + k) = omega arith in rw e (zeros n (6 * i + k))

words_slot : (c n : ℕ) (xs : List Item) (i : ℕ) → slot (c ∷ flatten (map item_words xs) ++ replicate n 0) i ≡ get_or xs i no_item
unfolding item_from item_words flatten
words_slot c n [] i = zero_slot c n i
words_slot c n (x ∷ xs) zero = refl
words_slot c n (x ∷ xs) (suc i) =
    from_same (c ∷ flatten (map item_words (x ∷ xs)) ++ replicate n 0) (c ∷ flatten (map item_words xs) ++ replicate n 0) (6 * suc i + 1) (6 * i + 1)
    (λ k l. at k)
    ∙ words_slot c n xs i
  where
    at : (k : ℕ) → get_or (c ∷ flatten (map item_words (x ∷ xs)) ++ replicate n 0) (6 * suc i + 1 + k) 0
        ≡ get_or (c ∷ flatten (map item_words xs) ++ replicate n 0)
        (6 * i + 1 + k) 0
    at k =
        let e : 6 * suc i + 1 + k ≡ suc (suc (suc (suc (suc (suc (suc (6 * i + k))))))) = omega arith in
        let d : 6 * i + 1 + k ≡ suc (6 * i + k) = omega arith in
        rw (e, d)

table_slot : (n : ℕ) (xs : List Item) (i : ℕ) → slot (table_of n xs) i ≡ get_or xs i no_item
unfolding table_of
table_slot n xs i = words_slot (length xs) (n - 1 - 6 * length xs) xs i

table_long : (n : ℕ) (xs : List Item) → 6 * length xs < length (table_of n xs)
unfolding table_of
table_long n xs = omega (arith, length-append (flatten (map item_words xs)) (replicate (n - 1 - 6 * length xs) 0), length_words xs)

pub table_holding : (t : List ℕ) (xs : List Item) → t ≡ table_of (length t) xs → Holding t xs
unfolding table_of
table_holding t xs h =
    record {
      count = ap (λ l. get_or l 0 0) h;
      fits = omega (arith, table_long (length t) xs, ap (λ l. length l) h);
      items = λ i. ap (λ l. slot l i) h ∙ table_slot (length t) xs i;
    }

pub holding_table : (t : List ℕ) (xs : List Item) → Holding t xs → t ≡ table_of (length t) xs
unfolding table_of
holding_table t xs h =
    slots_ext t (table_of (length t) xs) (sym (length_table_of (length t) xs (omega (arith, h.fits)))) h.count
    (λ i. h.items i ∙ sym (table_slot (length t) xs i))

-- none of the items is empty
abbrev pub Full : List Item → Type 0
Full xs = Every (λ x. x.start < x.end) xs

-- what a table holds
pub laid_holding : (t : List ℕ) → Laid t → Holding t (items_of t)
laid_holding t e = table_holding t (items_of t) e

pub holds_holding : (t : List ℕ) → HoldsItems t → Holding t (items_of t)
holds_holding t h = laid_holding t h.laid

-- and they ascend, none of them empty
pub holds_ordered : (t : List ℕ) → HoldsItems t → Ordered (items_of t)
holds_ordered t h = pairwise_pairs item_before (items_of t) h.ordered

pub holds_full : (t : List ℕ) → HoldsItems t → Full (items_of t)
unfolding item_full
holds_full t h = every (λ x e. ltb-true x.start x.end e) (items_of t) (all_every item_full (items_of t) h.full)

-- its items lie inside it
pub item_fits : (t : List ℕ) (i : ℕ) → Laid t → i < length (items_of t) → 6 * i + 7 ≤ length t
item_fits t i h l = omega (arith, (laid_holding t h).fits)

-- ---- an item as the code has it

pub record Fields (x : declared.Item) (y : Item) : Type 0 where
  pub position : y.position ≡ x.position
  pub start : y.start ≡ x.start
  pub end : y.end ≡ x.end

pub fields : (x : declared.Item) (y : Item) → as_item x ≡ y → Fields x y
unfolding as_item
fields x y e = record { position = ap (λ z. z.position) (sym e); start = ap (λ z. z.start) (sym e); end = ap (λ z. z.end) (sym e) }
