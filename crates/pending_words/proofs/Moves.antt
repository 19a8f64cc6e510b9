-- Items moved and cleared, one at a time. Assumes nothing.
use mathlib.Core.Path.{◌≡◌, refl, sym, ap, ◌∙◌}
use mathlib.Core.Bool.{Bool, true, false}
use mathlib.Core.List.{List, [], ◌∷◌, ◌++◌, map}
use Prim.Native.Nat.{ℕ, zero, suc, ◌+◌, ◌-◌, ◌*◌, ◌≤◌, ◌<◌}
use native.Mathlib.Numerals.{add-one}
use native.Mathlib.Omega.{arith}
use native.Mathlib.Decide.{ℕ_discrete, dec_lt}
use lib.ListN.{length, get_or, set, take, length-append, length-map, length-set, get_or-append, get_or-eq_default}
use lib.Seq.{sets, length-sets, take-suc, take-length, get_or_at, get_or-set_same}
use Rattle.base.specs.Lists.{pick, keep}
use Rattle.pending_spec.specs.Items.{Item, no_item}
use Rattle.pending_spec.specs.Table.{item_words, table_of}
use Rattle.pending_words.specs.Step.{slot, MovedUp, Cleared}
use Rattle.pending_words.proofs.Slots.{put_count, put_same, put_other, counted_slot, Holding, holding_table}

pub moved_none : (t : List ℕ) (n : ℕ) → MovedUp t n n t
moved_none t n =
    record {
      long = refl;
      count = refl;
      same = λ j h. refl;
      moved = λ j h k. absurd (omega arith);
      above = λ j h. refl;
    }

-- the next item below moves up
pub moved_more : (t u : List ℕ) (k n : ℕ) (x : Item) → MovedUp t k n u → 0 < k → k ≤ n → 6 * n + 7 ≤ length t → x ≡ slot u (k - 1)
    → MovedUp t (k - 1) n (sets u (6 * k + 1) (item_words x))
moved_more t u k n x m h l f e =
    record {
      long = length-sets u (6 * k + 1) (item_words x) ∙ m.long;
      count = put_count u k x ∙ m.count;
      same = λ j (a : j ≤ k - 1). put_other u k x j (λ (b : j ≡ k). omega arith) ∙ m.same j (omega arith);
      moved = λ j a b. here j a b (ℕ_discrete (j + 1) k);
      above = λ j (a : n < j). put_other u k x j (λ (b : j ≡ k). omega arith) ∙ m.above j a;
    }
  where
    here : (j : ℕ) → k - 1 ≤ j → j < n → Dec (j + 1 ≡ k) → slot (sets u (6 * k + 1) (item_words x)) (j + 1) ≡ slot t j
    here j a b (yes c) =
        let d : k - 1 ≡ j = omega arith in
        rw c (put_same u k x (omega (arith, m.long)) ∙ e ∙ m.same (k - 1) (omega arith) ∙ rw d)
    here j a b (no c) = put_other u k x (j + 1) c ∙ m.moved j (omega arith) b

pub cleared_none : (t : List ℕ) (i : ℕ) → Cleared t i i t
cleared_none t i =
    record {
      long = refl;
      count = refl;
      below = λ j h. refl;
      zero = λ j h k. absurd (omega arith);
      above = λ j h. refl;
    }

-- the next item above is cleared
pub cleared_more : (t u : List ℕ) (i k : ℕ) (x : Item) → Cleared t i k u → i ≤ k → 6 * k + 7 ≤ length t → x ≡ no_item
    → Cleared t i (k + 1) (sets u (6 * k + 1) (item_words x))
cleared_more t u i k x m h f e =
    record {
      long = length-sets u (6 * k + 1) (item_words x) ∙ m.long;
      count = put_count u k x ∙ m.count;
      below = λ j (a : j < i). put_other u k x j (λ (b : j ≡ k). omega arith) ∙ m.below j a;
      zero = λ j a b. here j a b (ℕ_discrete j k);
      above = λ j (a : k + 1 ≤ j). put_other u k x j (λ (b : j ≡ k). omega arith) ∙ m.above j (omega arith);
    }
  where
    here : (j : ℕ) → i ≤ j → j < k + 1 → Dec (j ≡ k) → slot (sets u (6 * k + 1) (item_words x)) j ≡ no_item
    here j a b (yes c) = rw c (put_same u k x (omega (arith, m.long)) ∙ e)
    here j a b (no c) = put_other u k x j c ∙ m.zero j a (omega arith)

-- ---- each item in its place

-- the items below k are changed by f
pub record Mapped (f : Item → Item) (t : List ℕ) (k : ℕ) (u : List ℕ) : Type 0 where
  pub long : length u ≡ length t
  pub count : get_or u 0 0 ≡ get_or t 0 0
  pub below : (j : ℕ) → j < k → slot u j ≡ f (slot t j)
  pub above : (j : ℕ) → k ≤ j → slot u j ≡ slot t j

module _ (f : Item → Item) (t : List ℕ) where
  pub mapped_none : Mapped f t 0 t
  mapped_none = record { long = refl; count = refl; below = λ j h. absurd (omega arith); above = λ j h. refl }

  pub mapped_more : (u : List ℕ) (k : ℕ) (x y : Item) → Mapped f t k u → 6 * k + 7 ≤ length t → x ≡ f y → y ≡ slot u k → Mapped f t (k + 1)
      (sets u (6 * k + 1) (item_words x))
  mapped_more u k x y m h e d =
      record {
        long = length-sets u (6 * k + 1) (item_words x) ∙ m.long;
        count = put_count u k x ∙ m.count;
        below = λ j a. here j a (ℕ_discrete j k);
        above = λ j (a : k + 1 ≤ j). put_other u k x j (λ (b : j ≡ k). omega arith) ∙ m.above j (omega arith);
      }
    where
      here : (j : ℕ) → j < k + 1 → Dec (j ≡ k) → slot (sets u (6 * k + 1) (item_words x)) j ≡ f (slot t j)
      here j a (yes b) = rw b (put_same u k x (omega (arith, m.long)) ∙ e ∙ ap f (d ∙ m.above k (omega arith)))
      here j a (no b) = put_other u k x j b ∙ m.below j (omega arith)

  pub mapped_table : (xs : List Item) (u : List ℕ) → Holding t xs → Mapped f t (length xs) u → u ≡ table_of (length t) (map f xs)
  mapped_table xs u hold m =
      rw m.long at (holding_table u (map f xs) record {
        count = m.count ∙ hold.count ∙ sym (length-map xs f);
        fits = omega (arith, hold.fits, m.long, length-map xs f);
        items = λ j. go j (dec_lt j (length xs));
      })
    where
      go : (j : ℕ) → Dec (j < length xs) → slot u j ≡ get_or (map f xs) j no_item
      go j (yes h) = m.below j h ∙ ap f (hold.items j) ∙ sym (get_d_mapped xs j h)
        where
          get_d_mapped : (ys : List Item) (i : ℕ) → i < length ys → get_or (map f ys) i no_item ≡ f (get_or ys i no_item)
          get_d_mapped [] i k = absurd (omega arith)
          get_d_mapped (y ∷ ys) zero k = refl
          get_d_mapped (y ∷ ys) (suc i) k = get_d_mapped ys i (omega arith)
      go j (no h) =
          m.above j (omega arith) ∙ hold.items j ∙ get_or-eq_default xs no_item (omega arith)
          ∙ sym (get_or-eq_default (map f xs) no_item (omega (arith, length-map xs f)))

-- ---- those that stay

-- of the items below k those that pass the test stand first, `kept` of them
pub record Kept (test : Item → Bool) (xs : List Item) (t : List ℕ) (kept k : ℕ) (u : List ℕ) : Type 0 where
  pub long : length u ≡ length t
  pub count : get_or u 0 0 ≡ get_or t 0 0
  pub most : kept ≤ k
  pub many : kept ≡ length (keep test (take k xs))
  pub below : (j : ℕ) → j < kept → slot u j ≡ get_or (keep test (take k xs)) j no_item
  pub above : (j : ℕ) → k ≤ j → slot u j ≡ slot t j

keep_append : (test : Item → Bool) (xs ys : List Item) → keep test (xs ++ ys) ≡ keep test xs ++ keep test ys
unfolding keep
keep_append test [] ys = refl
keep_append test (x ∷ xs) ys = go (test x) (keep_append test xs ys)
  where
    go : (b : Bool) → keep test (xs ++ ys) ≡ keep test xs ++ keep test ys
        → pick b (x ∷ keep test (xs ++ ys)) (keep test (xs ++ ys)) ≡ pick b (x ∷ keep test xs) (keep test xs) ++ keep test ys
    go true e = rw e
    go false e = e

module _ (test : Item → Bool) (xs : List Item) (t : List ℕ) (hold : Holding t xs) where
  pub kept_none : Kept test xs t 0 0 t
  unfolding keep
  kept_none = record { long = refl; count = refl; most = omega arith; many = refl; below = λ j h. absurd (omega arith); above = λ j h. refl }

  next : (k : ℕ) → k < length xs → keep test (take (k + 1) xs) ≡ keep test (take k xs) ++ pick (test (get_or xs k no_item)) (get_or xs k no_item ∷ []) []
  unfolding keep
  next k h = rw (add-one, take-suc xs k no_item h) (keep_append test (take k xs) (get_or xs k no_item ∷ []))

  pub kept_more : (u : List ℕ) (kept k : ℕ) (x : Item) (n : ℕ) → Kept test xs t kept k u → k < length xs → x ≡ slot u k → n ≡ pick (test x) 1 0
      → Kept test xs t (kept + n) (k + 1) (sets u (6 * kept + 1) (item_words x))
  kept_more u kept k x n m h e d = go (test x) refl
    where
      y : Item
      y = get_or xs k no_item

      same : x ≡ y
      same = e ∙ m.above k (omega arith) ∙ hold.items k

      fits : 6 * kept + 7 ≤ length u
      fits = omega (arith, m.long, m.most, hold.fits)

      high : (j : ℕ) → k + 1 ≤ j → slot (sets u (6 * kept + 1) (item_words x)) j ≡ slot t j
      high j a = put_other u kept x j (λ (b : j ≡ kept). omega (arith, m.most)) ∙ m.above j (omega arith)

      went : (b : Bool) → test x ≡ b → keep test (take (k + 1) xs) ≡ keep test (take k xs) ++ pick b (x ∷ []) []
      went b f = next k h ∙ rw (← same, f)

      low : (b : Bool) → (j : ℕ) → j < kept → slot (sets u (6 * kept + 1) (item_words x)) j ≡ get_or (keep test (take k xs) ++ pick b (x ∷ []) []) j no_item
      low b j a = put_other u kept x j (λ (c : j ≡ kept). omega arith) ∙ m.below j a ∙ sym
          (get_or-append (keep test (take k xs)) _ no_item j (omega (arith, m.many)))

      last : (j : ℕ) → j < kept + 1 → Dec (j ≡ kept) → slot (sets u (6 * kept + 1) (item_words x)) j ≡ get_or (keep test (take k xs) ++ x ∷ []) j no_item
      last j a (yes b) = rw b (put_same u kept x fits ∙ sym (get_or_at (keep test (take k xs)) x [] no_item kept (sym m.many)))
      last j a (no b) = low true j (omega arith)

      go : (b : Bool) → test x ≡ b → Kept test xs t (kept + n) (k + 1) (sets u (6 * kept + 1) (item_words x))
      go true f =
          let one : n ≡ 1 = d ∙ rw f in
          record {
            long = length-sets u (6 * kept + 1) (item_words x) ∙ m.long;
            count = put_count u kept x ∙ m.count;
            most = omega (arith, m.most);
            many = rw (went true f, length-append (keep test (take k xs)) (x ∷ [])) (omega (arith, m.many));
            below = λ j (a : j < kept + n). rw (went true f) (last j (omega arith) (ℕ_discrete j kept));
            above = high;
          }
      go false f =
          let none : n ≡ 0 = d ∙ rw f in
          record {
            long = length-sets u (6 * kept + 1) (item_words x) ∙ m.long;
            count = put_count u kept x ∙ m.count;
            most = omega (arith, m.most);
            many = rw (went false f, length-append (keep test (take k xs)) []) (omega (arith, m.many));
            below = λ j (a : j < kept + n). rw (went false f) (low false j (omega arith));
            above = high;
          }

  -- the others cleared, and the count written
  pub kept_table : (u v : List ℕ) (kept k n : ℕ) → Kept test xs t kept k u → k ≡ length xs → n ≡ length xs → Cleared u kept n v → set v 0 kept ≡ table_of
      (length t) (keep test xs)
  kept_table u v kept k n m e d c =
      rw long at (holding_table (set v 0 kept) (keep test xs) record {
        count = get_or-set_same v 0 kept 0 (omega (arith, c.long, m.long, hold.fits)) ∙ many;
        fits = omega (arith, long, hold.fits, m.most, many);
        items = λ j. counted_slot v kept j ∙ go j (dec_lt j kept) (dec_lt j n);
      })
    where
      all : take k xs ≡ xs
      all = rw e (take-length xs)

      long : length (set v 0 kept) ≡ length t
      long = length-set v 0 kept ∙ c.long ∙ m.long

      many : kept ≡ length (keep test xs)
      many = m.many ∙ rw all

      go : (j : ℕ) → Dec (j < kept) → Dec (j < n) → slot v j ≡ get_or (keep test xs) j no_item
      go j (yes a) b = c.below j a ∙ m.below j a ∙ rw all
      go j (no a) (yes b) = c.zero j (omega arith) b ∙ sym (get_or-eq_default (keep test xs) no_item (omega (arith, many)))
      go j (no a) (no b) =
          c.above j (omega arith) ∙ m.above j (omega arith) ∙ hold.items j ∙ get_or-eq_default xs no_item (omega arith)
          ∙ sym (get_or-eq_default (keep test xs) no_item (omega (arith, many)))

-- ---- one more, after all others

pub added_table : (t : List ℕ) (xs : List Item) (x y : Item) → Holding t xs → 6 * length xs + 6 < length t → x ≡ y
    → set (sets t (6 * length xs + 1) (item_words x)) 0 (length xs + 1) ≡ table_of (length t) (xs ++ y ∷ [])
added_table t xs x y hold h same =
    rw (← same) (rw long at (holding_table (set u 0 (length xs + 1)) (xs ++ x ∷ []) record {
      count = get_or-set_same u 0 (length xs + 1) 0 (omega (arith, length-sets t (6 * length xs + 1) (item_words x))) ∙ sym (length-append xs (x ∷ []));
      fits = omega (arith, long, length-append xs (x ∷ []));
      items = λ j. counted_slot u (length xs + 1) j ∙ go j (dec_lt j (length xs)) (ℕ_discrete j (length xs));
    }))
  where
    u : List ℕ
    u = sets t (6 * length xs + 1) (item_words x)

    long : length (set u 0 (length xs + 1)) ≡ length t
    long = length-set u 0 (length xs + 1) ∙ length-sets t (6 * length xs + 1) (item_words x)

    go : (j : ℕ) → Dec (j < length xs) → Dec (j ≡ length xs) → slot u j ≡ get_or (xs ++ x ∷ []) j no_item
    go j (yes a) b = put_other t (length xs) x j (λ (e : j ≡ length xs). omega arith) ∙ hold.items j ∙ sym (get_or-append xs (x ∷ []) no_item j a)
    go j (no a) (yes b) = rw b (put_same t (length xs) x (omega arith) ∙ sym (get_or_at xs x [] no_item (length xs) refl))
    go j (no a) (no b) =
        put_other t (length xs) x j b ∙ hold.items j ∙ get_or-eq_default xs no_item (omega arith)
        ∙ sym (get_or-eq_default (xs ++ x ∷ []) no_item (omega (arith, length-append xs (x ∷ []))))
