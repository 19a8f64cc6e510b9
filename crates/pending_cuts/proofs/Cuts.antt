-- Cuts by index: which item is cut, and how many items there are afterwards. Assumes nothing.
use mathlib.Core.Path.{◌≡◌, refl, sym, ap, ◌∙◌}
use mathlib.Core.List.{List, [], ◌∷◌, ◌++◌, flatten, append_assoc}
use mathlib.Core.Bool.{Bool, true, false}
use Prim.Native.Nat.{ℕ, zero, suc, ◌+◌, ◌-◌, ◌*◌, ◌≤◌, ◌<◌}
use native.Mathlib.Omega.{arith}
use native.Mathlib.Decide.{ℕ_discrete, dec_lt}
use lib.ListN.{length, get_or, set, take, drop, length-append, length-drop, length-set, get_or-append, get_or-eq_default}
use lib.Seq.{length-take-le, get_or-take, get_or-drop, get_or-set_same, sets, length-sets}
use borrow.Author.Tests.{lt-ltb, le-ltb}
use Rattle.base.proofs.Tests.{fails}
use Rattle.base.proofs.Index.{get_d_right}
use Rattle.pending_spec.specs.Items.{Item, no_item, item_holds, falls_inside, front_of, back_of, cut_item, cut_at, both_cuts}
use Rattle.pending_spec.specs.Table.{item_words, table_of, items_of, HoldsItems}
use Rattle.pending_search.specs.Answers.{FoundBy, at_index, nowhere}
use Rattle.pending_words.specs.Step.{slot, MovedUp, in_two}
use Rattle.pending_spec.proofs.Items.{Ordered, Cut, two, complete, cut}
use Rattle.pending_words.proofs.Slots.{put_same, put_other, counted_slot, Holding, holding_table, holds_ordered}
use Rattle.pending_search.proofs.Finds.{holds_from, inside_facts, inside_from, one_holds}
use Rattle.std.specs.Prelude.{None, Some, Option}

-- ---- one item in two parts

module _ (xs : List Item) (i o : ℕ) (h : i < length xs) where
  before : length (take i xs) ≡ i
  before = length-take-le i xs (omega arith)

  pub length_split : length (in_two xs i o) ≡ length xs + 1
  unfolding in_two
  length_split = simp (length-append, before, length-drop) (omega arith)

  split_below : (j : ℕ) → j < i → get_or (in_two xs i o) j no_item ≡ get_or xs j no_item
  unfolding in_two
  split_below j k = get_or-append (take i xs) _ no_item j (omega (arith, before)) ∙ get_or-take i xs j no_item k

  split_right : (j k : ℕ) → j ≡ i + k → get_or (in_two xs i o) j no_item
      ≡ get_or (front_of (get_or xs i no_item) o ∷ back_of (get_or xs i no_item) o ∷ drop (i + 1) xs) k
      no_item
  unfolding in_two
  split_right j k e =
      let d : j - length (take i xs) ≡ k = omega (arith, before) in
      get_d_right no_item (take i xs) _ j (omega (arith, before)) ∙ rw d

  split_above : (j : ℕ) → i + 1 < j → get_or (in_two xs i o) j no_item ≡ get_or xs (j - 1) no_item
  split_above j k =
      let e : i + 1 + (j - i - 2) ≡ j - 1 = omega arith in
      split_right j (suc (suc (j - i - 2))) (omega arith) ∙ get_or-drop (i + 1) xs (j - i - 2) no_item ∙ rw e

  -- the table after the move, both parts written and the count
  pub split_table : (t u : List ℕ) → Holding t xs → MovedUp t i (length xs) u → 6 * length xs + 6 < length t → (x y : Item)
      → x ≡ front_of (get_or xs i no_item) o → y ≡ back_of (get_or xs i no_item) o
      → set (sets (sets u (6 * i + 1) (item_words x)) (6 * (i + 1) + 1) (item_words y)) 0 (length xs + 1) ≡ table_of (length t) (in_two xs i o)
  split_table t u hold m f x y a b = rw (sym same) at (holding_table w (in_two xs i o) record
      { count = counts; fits = omega (arith, same, length_split); items = items })
    where
      v : List ℕ
      v = sets u (6 * i + 1) (item_words x)

      w : List ℕ
      w = set (sets v (6 * (i + 1) + 1) (item_words y)) 0 (length xs + 1)

      same : length t ≡ length w
      same = sym (length-set (sets v (6 * (i + 1) + 1) (item_words y)) 0 (length xs + 1) ∙ length-sets v (6 * (i + 1) + 1) (item_words y) ∙ length-sets u
          (6 * i + 1) (item_words x) ∙ m.long)

      counts : get_or w 0 0 ≡ length (in_two xs i o)
      counts = get_or-set_same (sets v (6 * (i + 1) + 1) (item_words y)) 0 (length xs + 1) 0
          (omega (arith, length-sets v (6 * (i + 1) + 1) (item_words y), length-sets u (6 * i + 1) (item_words x), m.long)) ∙ sym length_split

      first : (j : ℕ) → Dec (j < i) → Dec (j ≡ i) → Dec (j ≡ i + 1) → slot w j ≡ get_or (in_two xs i o) j no_item
      first j (yes c) d e =
          counted_slot _ (length xs + 1) j ∙ put_other v (i + 1) y j (λ (k : j ≡ i + 1). omega arith) ∙ put_other u i x j (λ (k : j ≡ i). omega arith)
          ∙ m.same j (omega arith) ∙ hold.items j ∙ sym (split_below j c)
      first j (no c) (yes d) e =
          rw d
          (counted_slot _ (length xs + 1) i ∙ put_other v (i + 1) y i (λ (k : i ≡ i + 1). omega arith) ∙ put_same u i x (omega (arith, m.long))
          ∙ a ∙ sym (split_right i 0 (omega arith)))
      first j (no c) (no d) (yes e) =
          rw e
          (counted_slot _ (length xs + 1) (i + 1) ∙ put_same v (i + 1) y (omega (arith, m.long, length-sets u (6 * i + 1) (item_words x)))
          ∙ b ∙ sym (split_right (i + 1) 1 (omega arith)))
      first j (no c) (no d) (no e) =
          counted_slot _ (length xs + 1) j ∙ put_other v (i + 1) y j e ∙ put_other u i x j d ∙ high j (omega arith) (dec_lt (length xs) j) ∙ sym
          (split_above j (omega arith))
        where
          high : (k : ℕ) → i + 1 < k → Dec (length xs < k) → slot u k ≡ get_or xs (k - 1) no_item
          high k l (yes n) =
              m.above k n ∙ hold.items k
              ∙ get_or-eq_default xs no_item (omega arith) ∙ sym (get_or-eq_default xs no_item (omega arith))
          high k l (no n) =
              let e : (k - 1) + 1 ≡ k = omega arith in
              rw e at (m.moved (k - 1) (omega arith) (omega arith) ∙ hold.items (k - 1))

      items : (j : ℕ) → slot w j ≡ get_or (in_two xs i o) j no_item
      items j = first j (dec_lt j i) (ℕ_discrete j i) (ℕ_discrete j (i + 1))

-- ---- a cut is a split, or none

cut_none : (p o : ℕ) (xs : List Item) → ((j : ℕ) → j < length xs → falls_inside p o (get_or xs j no_item) ≡ false) → cut_at p o xs ≡ xs
unfolding cut_at flatten cut_item
cut_none p o [] f = refl
cut_none p o (x ∷ xs) f = rw (f 0 (omega arith), cut_none p o xs (λ j (h : j < length xs). f (suc j) (omega arith)))

cut_one : (p o : ℕ) (xs : List Item) (i : ℕ) → i < length xs → falls_inside p o (get_or xs i no_item) ≡ true
    → ((j : ℕ) → j < length xs → (j ≡ i → ⊥) → falls_inside p o (get_or xs j no_item) ≡ false) → cut_at p o xs ≡ in_two xs i o
unfolding cut_at flatten cut_item in_two
cut_one p o [] i h e f = absurd (omega arith)
cut_one p o (x ∷ xs) zero h e f = rw (e, cut_none p o xs (λ j (k : j < length xs). f (suc j) (omega arith) (λ (d : suc j ≡ 0). omega arith)))
cut_one p o (x ∷ xs) (suc i) h e f =
    let s : suc i + 1 ≡ suc (i + 1) = omega arith in
    rw (
      s,
      f 0 (omega arith) (λ (d : 0 ≡ suc i). omega arith),
      cut_one p o xs i (omega arith) e
          (λ j (k : j < length xs) g. f (suc j) (omega arith) (λ (d : suc j ≡ suc i). g (omega arith))),
    )

inside_holds : (p o : ℕ) (x : Item) → falls_inside p o x ≡ true → item_holds p o x ≡ true
inside_holds p o x h = let k = inside_facts p o x h in holds_from p o x k.0 (omega (arith, k.1)) k.2

pub cut_nowhere : (p o : ℕ) (xs : List Item) → FoundBy (falls_inside p o) xs None → cut_at p o xs ≡ xs
cut_nowhere p o xs (nowhere f) = cut_none p o xs f

pub cut_there : (p o : ℕ) (xs : List Item) (i : ℕ) → Ordered xs → FoundBy (falls_inside p o) xs (Some i) → cut_at p o xs ≡ in_two xs i o
cut_there p o xs i ord (at_index j h e) =
    cut_one p o xs i h e
    (λ k l g. fails (falls_inside p o (get_or xs k no_item)) (λ d. g (one_holds xs ord p o k i l h (inside_holds p o _ d) (inside_holds p o _ e))))

-- ---- how many

cut_append : (p o : ℕ) (xs ys : List Item) → cut_at p o (xs ++ ys) ≡ cut_at p o xs ++ cut_at p o ys
unfolding cut_at flatten
cut_append p o [] ys = refl
cut_append p o (x ∷ xs) ys = rw (cut_append p o xs ys) (sym (append_assoc (cut_item p o x) (cut_at p o xs) (cut_at p o ys)))

-- after a cut at s, a later cut adds what it would have added before
cut_twice : (p s e : ℕ) (x : Item) (ys : List Item) → s < e → Cut p s x ys → length (cut_at p e ys) + 1 ≡ length ys + length (cut_item p e x)
unfolding cut_at flatten cut_item
cut_twice p s e x ys h (complete f) = omega (arith, length-append (cut_item p e x) [])
cut_twice p s e x ys h (two a b d) = go (dec_lt e x.end)
  where
    front_complete : falls_inside p e (front_of x s) ≡ false
    front_complete = fails (falls_inside p e (front_of x s)) (λ k. omega (arith, (inside_facts p e (front_of x s) k).2))

    go : Dec (e < x.end) → length (cut_item p e (front_of x s) ++ (cut_item p e (back_of x s) ++ [])) + 1 ≡ 2 + length (cut_item p e x)
    go (yes k) = rw (front_complete, inside_from p e (back_of x s) a h k, inside_from p e x a (omega arith) k)
    go (no k) =
        rw (
          front_complete,
          fails (falls_inside p e (back_of x s)) (λ l. k (inside_facts p e (back_of x s) l).2),
          fails (falls_inside p e x) (λ l. k (inside_facts p e x l).2),
        )

cuts_add : (p s e : ℕ) → s < e → (xs : List Item) → length (cut_at p e (cut_at p s xs)) + length xs ≡ length (cut_at p s xs) + length (cut_at p e xs)
unfolding cut_at flatten
cuts_add p s e h [] = refl
cuts_add p s e h (x ∷ xs) =
    omega (
      arith,
      ap (λ l. length l) (cut_append p e (cut_item p s x) (cut_at p s xs)),
      length-append (cut_at p e (cut_item p s x)) (cut_at p e (cut_at p s xs)),
      length-append (cut_item p s x) (cut_at p s xs),
      length-append (cut_item p e x) (cut_at p e xs),
      cut_twice p s e x (cut_item p s x) h (cut p s x),
      cuts_add p s e h xs,
    )

pub length_both_cuts : (p s e : ℕ) (xs : List Item) (m n : ℕ) → s < e → length (cut_at p s xs) ≡ length xs + m → length (cut_at p e xs) ≡ length xs + n
    → length xs + m + n ≡ length (both_cuts p s e xs)
unfolding both_cuts
length_both_cuts p s e xs m n h a b = rw (lt-ltb s e h) (omega (arith, cuts_add p s e h xs))

pub uncut : (p s e : ℕ) (xs : List Item) → e ≤ s → both_cuts p s e xs ≡ xs
unfolding both_cuts
uncut p s e xs h = rw (le-ltb s e h)

-- ---- what was found, at a cut

found_index : (test : Item → Bool) (xs : List Item) (i : ℕ) → FoundBy test xs (Some i) → i < length xs
found_index test xs i (at_index j h e) = h

module _ (t : List ℕ) (h : HoldsItems t) (p o : ℕ) (r : Option ℕ) (f : FoundBy (falls_inside p o) (items_of t) r) where
  pub cut_absent : r ≡ None → t ≡ table_of (length t) (cut_at p o (items_of t))
  cut_absent e = rw (cut_nowhere p o (items_of t) (rw e at f)) h.laid

  pub length_absent : r ≡ None → length (cut_at p o (items_of t)) ≡ length (items_of t) + 0
  length_absent e = rw (cut_nowhere p o (items_of t) (rw e at f)) (omega arith)

  pub cut_index : (i : ℕ) → r ≡ Some i → i < length (items_of t)
  cut_index i e = found_index (falls_inside p o) (items_of t) i (rw e at f)

  pub cut_present : (i : ℕ) → r ≡ Some i → cut_at p o (items_of t) ≡ in_two (items_of t) i o
  cut_present i e = cut_there p o (items_of t) i (holds_ordered t h) (rw e at f)

  pub length_present : (i : ℕ) → r ≡ Some i → length (cut_at p o (items_of t)) ≡ length (items_of t) + 1
  length_present i e = rw (cut_present i e) (length_split (items_of t) i o (cut_index i e))
