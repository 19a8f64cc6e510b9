-- Items before an offset and items after it. Assumes nothing.
use mathlib.Core.Path.{◌≡◌, refl, ◌∙◌}
use mathlib.Core.Logic.{◌⊎◌, inl, inr}
use mathlib.Core.List.{List}
use mathlib.Core.Bool.{Bool, true, false, ◌&&◌, ◌||◌}
use Prim.Native.Nat.{ℕ, ◌+◌, ◌≤◌, ◌<◌}
use native.Mathlib.Omega.{arith}
use lib.Dec.{ltb, leb, eqb}
use lib.ListN.{length, get_or}
use borrow.Author.Tests.{lt-ltb, le-ltb, le-leb, ltb-true, ltb-false, leb-true, leb-false, eqb-true, eqb-false, eq-eqb}
use Rattle.base.proofs.Tests.{and_left, and_right, not_both, fails}
use Rattle.base.proofs.Narrowed.{Narrowed, narrowed_up, narrowed_down}
use Rattle.base.proofs.Places.{every_place, pairs_places}
use Rattle.pending_spec.specs.Items.{Item, no_item, item_before}
use Rattle.pending_search.specs.Step.{ends_before, Parted}
use Rattle.pending_spec.proofs.Items.{Ordered, before_facts}
use Rattle.pending_words.proofs.Slots.{Full}

-- ---- wholly before an offset

pub ends_facts : (p o : ℕ) (x : Item) → ends_before p o x ≡ true → (x.position < p) ⊎ ((x.position ≡ p) × (x.end ≤ o))
unfolding ends_before
ends_facts p o x h = go (ltb x.position p) refl h
  where
    go : (t : Bool) → ltb x.position p ≡ t → t || (eqb x.position p && leb x.end o) ≡ true → (x.position < p) ⊎ ((x.position ≡ p) × (x.end ≤ o))
    go true e k = inl (ltb-true _ _ e)
    go false e k = inr (eqb-true _ _ (and_left (eqb x.position p) _ k), leb-true _ _ (and_right (eqb x.position p) _ k))

pub ends_from : (p o : ℕ) (x : Item) → (x.position < p) ⊎ ((x.position ≡ p) × (x.end ≤ o)) → ends_before p o x ≡ true
unfolding ends_before
ends_from p o x (inl h) = rw (lt-ltb x.position p h)
ends_from p o x (inr h) = rw (le-ltb x.position p (omega (arith, h.0)), eq-eqb x.position p h.0, le-leb x.end o h.1)

pub ahead_facts : (p o : ℕ) (x : Item) → ends_before p o x ≡ false → (p < x.position) ⊎ ((x.position ≡ p) × (o < x.end))
unfolding ends_before
ahead_facts p o x h = go (ltb x.position p) (eqb x.position p) (leb x.end o) refl refl refl h
  where
    go : (t u v : Bool) → ltb x.position p ≡ t → eqb x.position p ≡ u → leb x.end o ≡ v → t || (u && v) ≡ false → (p < x.position) ⊎
        ((x.position ≡ p) × (o < x.end))
    go true u v a b c k = absurd (not_both refl k)
    go false true true a b c k = absurd (not_both refl k)
    go false true false a b c k = inr (eqb-true _ _ b, leb-false x.end o c)
    go false false v a b c k =
        let d : x.position ≡ p → ⊥ = eqb-false x.position p b in
        inl (omega (arith, d, ltb-false x.position p a))

-- what lies before an item that lies before the offset does too
earlier_ends : (p o : ℕ) (x y : Item) → item_before x y ≡ true → y.start < y.end → ends_before p o y ≡ true → ends_before p o x ≡ true
earlier_ends p o x y b f e = ends_from p o x (go (before_facts x y b) (ends_facts p o y e))
  where
    go : (x.position < y.position) ⊎ ((x.position ≡ y.position) × (x.end ≤ y.start)) → (y.position < p) ⊎ ((y.position ≡ p) × (y.end ≤ o)) →
        (x.position < p) ⊎ ((x.position ≡ p) × (x.end ≤ o))
    go (inl h) (inl k) = inl (omega arith)
    go (inl h) (inr k) = inl (omega (arith, k.0))
    go (inr h) (inl k) = inl (omega (arith, h.0))
    go (inr h) (inr k) = inr (h.0 ∙ k.0, omega (arith, h.1, k.1))

-- ---- halving

-- the items below `low` lie before the offset, those from `high` on do not
abbrev pub Halved : ℕ → ℕ → List Item → ℕ → ℕ → Type 0
Halved p o xs low high = Narrowed (length xs) (λ j. ends_before p o (get_or xs j no_item) ≡ true) (λ j. ends_before p o (get_or xs j no_item) ≡ false) low high

module _ (p o : ℕ) (xs : List Item) where
  pub halved_end : (low high : ℕ) → Halved p o xs low high → high ≤ low → Parted p o xs low
  halved_end low high h e =
      record { most = omega (arith, h.order, h.inside); below = h.below; above = λ j (l : low ≤ j) m. h.above j (omega arith) m }

  module _ (ord : Ordered xs) (full : Full xs) where
    before_all : (j m : ℕ) → j < m → m < length xs → ends_before p o (get_or xs m no_item) ≡ true → ends_before p o (get_or xs j no_item) ≡ true
    before_all j m h l e =
        earlier_ends p o (get_or xs j no_item) (get_or xs m no_item) (pairs_places no_item xs j m ord h l) (every_place no_item xs m full l) e

    pub halved_up : (low high m : ℕ) → Halved p o xs low high → m < high → ends_before p o (get_or xs m no_item) ≡ true → Halved p o xs (m + 1) high
    halved_up low high m h l e = narrowed_up _ _ _ low high m (λ i (k : i < m). before_all i m k (omega (arith, h.inside)) e) e l h

    pub halved_down : (low high m : ℕ) → Halved p o xs low high → low ≤ m → m < high → ends_before p o (get_or xs m no_item) ≡ false → Halved p o xs low m
    halved_down low high m h a l e =
        narrowed_down _ _ _ low high m (λ i k n. fails (ends_before p o (get_or xs i no_item)) (λ d. not_both (before_all m i k n d) e)) e a l h
