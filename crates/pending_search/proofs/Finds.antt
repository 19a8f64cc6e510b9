-- Where an offset stands among items in order: the item that holds it, the item it falls inside of, the gap around it. Assumes nothing.
use mathlib.Core.Path.{◌≡◌, sym, ◌∙◌}
use mathlib.Core.Logic.{◌⊎◌, inl, inr}
use mathlib.Core.List.{List}
use mathlib.Core.Bool.{true}
use Prim.Native.Nat.{ℕ, suc, ◌≤◌, ◌<◌}
use native.Mathlib.Omega.{arith}
use native.Mathlib.Decide.{ℕ_discrete, dec_lt}
use lib.Dec.{ltb, eqb}
use lib.ListN.{length, get_or}
use borrow.Author.Tests.{lt-ltb, ltb-true, eqb-true, eq-eqb}
use Rattle.base.proofs.Tests.{and_left, and_right, fails}
use Rattle.base.proofs.Places.{every_place, pairs_places}
use Rattle.base.proofs.Index.{find_at, find_no}
use Rattle.record_spec.proofs.Ranges.{within_yes}
use Rattle.pending_spec.specs.Items.{Item, no_item, item_holds, item_at, falls_inside}
use Rattle.pending_search.specs.Answers.{FoundBy, at_index, nowhere, found_item, Constant}
use Rattle.pending_search.specs.Step.{Parted}
use Rattle.pending_spec.proofs.Items.{Ordered, before_facts, holds_facts}
use Rattle.pending_words.proofs.Slots.{Full}
use Rattle.pending_search.proofs.Halves.{ends_facts, ahead_facts}
use Rattle.std.specs.Prelude.{None, Some, Option}

pub holds_from : (p o : ℕ) (x : Item) → x.position ≡ p → x.start ≤ o → o < x.end → item_holds p o x ≡ true
unfolding item_holds
holds_from p o x a b c = rw (eq-eqb x.position p a, within_yes x.start x.end o b c)

pub inside_facts : (p o : ℕ) (x : Item) → falls_inside p o x ≡ true → (x.position ≡ p) × (x.start < o) × (o < x.end)
unfolding falls_inside
inside_facts p o x h =
    let k = and_right (eqb x.position p) _ h in
    (eqb-true _ _ (and_left (eqb x.position p) _ h), ltb-true _ _ (and_left (ltb x.start o) _ k), ltb-true _ _ (and_right (ltb x.start o) _ k))

pub inside_from : (p o : ℕ) (x : Item) → x.position ≡ p → x.start < o → o < x.end → falls_inside p o x ≡ true
unfolding falls_inside
inside_from p o x a b c = rw (eq-eqb x.position p a, lt-ltb x.start o b, lt-ltb o x.end c)

-- two items that both hold an offset of an entry are one
pub one_holds : (xs : List Item) → Ordered xs → (p o i j : ℕ) → i < length xs → j < length xs
    → item_holds p o (get_or xs i no_item) ≡ true → item_holds p o (get_or xs j no_item) ≡ true → i ≡ j
one_holds xs ord p o i j h k a b = go (dec_lt i j) (dec_lt j i)
  where
    clash : (m n : ℕ) → m < n → n < length xs → item_holds p o (get_or xs m no_item) ≡ true → item_holds p o (get_or xs n no_item) ≡ true → ⊥
    clash m n l u c d = by (before_facts (get_or xs m no_item) (get_or xs n no_item) (pairs_places no_item xs m n ord l u))
      where
        f : ((get_or xs m no_item).position ≡ p) × ((get_or xs m no_item).start ≤ o) × (o < (get_or xs m no_item).end)
        f = holds_facts p o (get_or xs m no_item) c

        g : ((get_or xs n no_item).position ≡ p) × ((get_or xs n no_item).start ≤ o) × (o < (get_or xs n no_item).end)
        g = holds_facts p o (get_or xs n no_item) d

        by : ((get_or xs m no_item).position < (get_or xs n no_item).position) ⊎
            (((get_or xs m no_item).position ≡ (get_or xs n no_item).position) × ((get_or xs m no_item).end ≤ (get_or xs n no_item).start)) → ⊥
        by (inl e) = omega (arith, f.0, g.0)
        by (inr e) = omega (arith, f.2, g.1, e.1)

    go : Dec (i < j) → Dec (j < i) → i ≡ j
    go (yes l) d = absurd (clash i j l k a b)
    go (no l) (yes m) = absurd (clash j i m h b a)
    go (no l) (no m) = omega arith

-- the item that was found is the item there
pub found_item_lem : (xs : List Item) → Ordered xs → (p o : ℕ) (r : Option ℕ) → FoundBy (item_holds p o) xs r → item_at xs p o ≡ found_item xs r
unfolding item_at found_item
found_item_lem xs ord p o r (at_index i h e) =
    find_at no_item (item_holds p o) xs i h
    (λ j (l : j < i). fails (item_holds p o (get_or xs j no_item)) (λ k. let s = one_holds xs ord p o j i (omega arith) h k e in omega arith)) e
found_item_lem xs ord p o r (nowhere f) = find_no no_item (item_holds p o) xs f

module _ (p o : ℕ) (xs : List Item) (i : ℕ) (part : Parted p o xs i) (ord : Ordered xs) (full : Full xs) where
  abbrev here : Item
  here = get_or xs i no_item

  -- past the items that end by o: where the next is of another entry, or starts at s or later, none starts before s and goes past q
  no_touch : (q s : ℕ) → o ≤ q → (i < length xs → (here.position ≡ p → ⊥) ⊎ (s ≤ here.start))
      → (j : ℕ) → j < length xs → (get_or xs j no_item).position ≡ p → (get_or xs j no_item).start < s → q < (get_or xs j no_item).end → ⊥
  no_touch q s h f j l a b c = go (dec_lt j i) (ℕ_discrete j i)
    where
      x : Item
      x = get_or xs j no_item

      early : (x.position < p) ⊎ ((x.position ≡ p) × (x.end ≤ o)) → ⊥
      early (inl e) = omega (arith, a)
      early (inr e) = omega (arith, e.1, c)

      later : i < j → (here.position ≡ p → ⊥) ⊎ (s ≤ here.start) → (p < here.position) ⊎ ((here.position ≡ p) × (o < here.end))
          → (here.position < x.position) ⊎ ((here.position ≡ x.position) × (here.end ≤ x.start)) → ⊥
      later m g (inl d) (inl e) = omega (arith, a)
      later m g (inl d) (inr e) = omega (arith, a, e.0)
      later m g (inr d) (inl e) = omega (arith, a, d.0)
      later m (inl g) (inr d) (inr e) = g d.0
      later m (inr g) (inr d) (inr e) = omega (arith, b, e.1, every_place no_item xs i full (omega arith))

      at : j ≡ i → (here.position ≡ p → ⊥) ⊎ (s ≤ here.start) → ⊥
      at e (inl g) = g (rw (← e) a)
      at e (inr g) = let k : (get_or xs i no_item).start < s = rw e at b in omega arith

      go : Dec (j < i) → Dec (j ≡ i) → ⊥
      go (yes m) d = early (ends_facts p o x (part.below j m))
      go (no m) (yes e) = at e (f (rw (← e) l))
      go (no m) (no e) =
          let n : i < length xs = omega arith in
          later (omega arith) (f n) (ahead_facts p o here (part.above i (omega arith) n))
          (before_facts here x (pairs_places no_item xs i j ord (omega arith) l))

  -- the next item goes past o
  pub past : i < length xs → here.position ≡ p → o < here.end
  past h e = go (ahead_facts p o here (part.above i (omega arith) h))
    where
      go : (p < here.position) ⊎ ((here.position ≡ p) × (o < here.end)) → o < here.end
      go (inl k) = absurd (omega (arith, e))
      go (inr k) = k.1

  pub held_here : i < length xs → here.position ≡ p → here.start ≤ o → FoundBy (item_holds p o) xs (Some i)
  held_here h e k = at_index i h (holds_from p o here e k (past h e))

  pub inside_here : i < length xs → here.position ≡ p → here.start < o → FoundBy (falls_inside p o) xs (Some i)
  inside_here h e k = at_index i h (inside_from p o here e k (past h e))

  pub not_held : (q : ℕ) → o ≤ q → (i < length xs → (here.position ≡ p → ⊥) ⊎ (q < here.start)) → FoundBy (item_holds p q) xs None
  not_held q h f = nowhere (λ j l. fails (item_holds p q (get_or xs j no_item))
      (λ e. let k = holds_facts p q (get_or xs j no_item) e in no_touch q (suc q) h f j l k.0 (omega (arith, k.1)) k.2))

  pub not_inside : (i < length xs → (here.position ≡ p → ⊥) ⊎ (o ≤ here.start)) → FoundBy (falls_inside p o) xs None
  not_inside f = nowhere (λ j l. fails (falls_inside p o (get_or xs j no_item))
      (λ e. let k = inside_facts p o (get_or xs j no_item) e in no_touch o o (omega arith) f j l k.0 k.1 k.2))

  -- nothing stands from o up to s
  pub gap_same : (s : ℕ) → o < s → (i < length xs → (here.position ≡ p → ⊥) ⊎ (s ≤ here.start)) → (q : ℕ) → o ≤ q → q < s → item_at xs p q ≡ item_at xs p o
  unfolding found_item
  gap_same s h f q k l = found_item_lem xs ord p q None (not_held q k (λ m. later q (omega arith) (f m))) ∙ sym
      (found_item_lem xs ord p o None (not_held o (omega arith) (λ m. later o h (f m))))
    where
      later : (r : ℕ) → r < s → (here.position ≡ p → ⊥) ⊎ (s ≤ here.start) → (here.position ≡ p → ⊥) ⊎ (r < here.start)
      later r a (inl g) = inl g
      later r a (inr g) = inr (omega arith)

  -- the item that holds o holds each offset up to its end
  pub held_same : i < length xs → here.position ≡ p → here.start ≤ o → (q : ℕ) → o ≤ q → q < here.end → item_at xs p q ≡ item_at xs p o
  unfolding found_item
  held_same h e k q a b =
      found_item_lem xs ord p q (Some i) (at_index i h (holds_from p q here e (omega arith) b)) ∙ sym (found_item_lem xs ord p o (Some i) (held_here h e k))

  -- so what was found goes for a stretch
  pub gap_constant : (s end : ℕ) → o < s → s ≤ end → (i < length xs → (here.position ≡ p → ⊥) ⊎ (s ≤ here.start)) → Constant xs p o end
      (record { found = None; end = s })
  gap_constant s end h k f = record { found = not_held o (omega arith) (λ m. later (f m)); onward = h; most = k; same = gap_same s h f }
    where
      later : (here.position ≡ p → ⊥) ⊎ (s ≤ here.start) → (here.position ≡ p → ⊥) ⊎ (o < here.start)
      later (inl g) = inl g
      later (inr g) = inr (omega arith)

  pub held_constant : (s end : ℕ) → i < length xs → here.position ≡ p → here.start ≤ o → o < s → s ≤ end → s ≤ here.end
      → Constant xs p o end (record { found = Some i; end = s })
  held_constant s end h e k l m n =
      record { found = held_here h e k; onward = l; most = m; same = λ q a (b : q < s). held_same h e k q a (omega arith) }
