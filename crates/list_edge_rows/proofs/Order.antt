-- A locator between the edges of a row, and the last of edges that ascend. Assumes nothing.
use mathlib.Core.Path.{◌≡◌, refl, sym, subst, ◌∙◌}
use mathlib.Core.Logic.{◌⊎◌, inl, inr}
use mathlib.Core.Bool.{Bool, true, false}
use mathlib.Core.List.{List, [], ◌∷◌}
use Prim.Native.Nat.{ℕ, ◌≤◌, ◌<◌}
use native.Mathlib.Omega.{arith}
use borrow.Author.Tests.{lt-ltb}
use Rattle.base.specs.Lists.{◌∈◌, here, there}
use Rattle.base.specs.Le.{Bytes}
use Rattle.base.proofs.Tests.{and_left, and_right, and_both, fails, not_both}
use Rattle.base.proofs.Members.{in_empty, in_cases}
use Rattle.base.proofs.Lists.{Pairs, with_later, every_in}
use Rattle.record_spec.specs.Reference.{BlockReference, TransactionLocator, locator, locator_before, new_range, same_reference, reference_before, covers}
use Rattle.record_spec.proofs.References.{Precedes, by_block, by_offset, precedes, is_before, reference_same, same_reference_lem, reference_irrefl}
use Rattle.record_spec.proofs.Ranges.{within_yes, within_true}
use Rattle.record_reference_bytes.specs.Step.{reference_at}
use Rattle.list_row_sort.specs.Rows.{Row, key_of, row_before}
use Rattle.list_row_sort.proofs.Order.{by_offset_lem, row_irrefl}
use Rattle.list_range_rows.specs.Ranges.{new_row, row_range, row_covers, Proper}
use Rattle.list_edge_rows.specs.Edges.{start_edge, end_edge, begins, last_begins}

-- ---- pairs

-- of two elements each is the other, or one stands before the other
pub in_pairs : {R : Row → Row → Type 0} {p q : Row} (xs : List Row) → Pairs R xs → p ∈ xs → q ∈ xs → (p ≡ q) ⊎ (R p q ⊎ R q p)
in_pairs {R} {p} {q} (x ∷ xs) (with_later h hs) m n = go (λ a b. in_pairs xs hs a b) (in_cases m) (in_cases n)
  where
    go : (p ∈ xs → q ∈ xs → (p ≡ q) ⊎ (R p q ⊎ R q p)) → (p ≡ x) ⊎ (p ∈ xs) → (q ≡ x) ⊎ (q ∈ xs) → (p ≡ q) ⊎ (R p q ⊎ R q p)
    go g (inl e) (inl f) = inl (e ∙ sym f)
    go g (inl e) (inr b) = inr (inl (subst (λ (y : Row). R y q) (sym e) (every_in xs q h b)))
    go g (inr a) (inl f) = inr (inr (subst (λ (y : Row). R y p) (sym f) (every_in xs p h a)))
    go g (inr a) (inr b) = g a b
in_pairs [] h m n = absurd (in_empty m)

-- ---- a locator and a row

module _ (s : Bytes) (k : ℕ) (p : Row) where
  -- a row that is not empty begins before it ends
  pub start_before : Proper s p → row_before s (start_edge k p) (end_edge k p) ≡ true
  unfolding row_before key_of start_edge end_edge new_row
  start_before h = by_offset_lem (reference_at s p.at) p.offset p.mark ∙ lt-ltb p.offset p.mark h.filled

  module _ (l : TransactionLocator) where
    -- it covers a locator that its start is not after, and its end is
    pub covers_start : row_covers s l p ≡ true → locator_before l (key_of s (start_edge k p)) ≡ false
    unfolding key_of start_edge new_row locator row_covers row_range new_range covers
    covers_start h = fails _ (λ e. never (precedes l (locator (reference_at s p.at) p.offset) e))
      where
        same : reference_at s p.at ≡ l.block
        same = reference_same (reference_at s p.at) l.block (and_left _ _ h)

        offsets : (p.offset ≤ l.offset) × (l.offset < p.mark)
        offsets = within_true p.offset p.mark l.offset (and_right (same_reference (reference_at s p.at) l.block) _ h)

        never : Precedes l (locator (reference_at s p.at) p.offset) → ⊥
        never (by_block e) = reference_irrefl l.block (subst (λ (r : BlockReference). reference_before l.block r ≡ true) same e)
        never (by_offset e f) = omega (arith, offsets.0)

    pub covers_end : row_covers s l p ≡ true → locator_before l (key_of s (end_edge k p)) ≡ true
    unfolding key_of end_edge new_row locator row_covers row_range new_range covers
    covers_end h =
        let same = reference_same (reference_at s p.at) l.block (and_left _ _ h) in
        let offsets = within_true p.offset p.mark l.offset (and_right (same_reference (reference_at s p.at) l.block) _ h) in
        is_before l (locator (reference_at s p.at) p.mark) (by_offset (sym same) offsets.1)

    pub covers_between : locator_before l (key_of s (start_edge k p)) ≡ false → locator_before l (key_of s (end_edge k p)) ≡ true → row_covers s l p ≡ true
    unfolding key_of start_edge end_edge new_row locator row_covers row_range new_range covers
    covers_between a b = go (precedes l (locator (reference_at s p.at) p.mark) b)
      where
        start : TransactionLocator
        start = locator (reference_at s p.at) p.offset

        go : Precedes l (locator (reference_at s p.at) p.mark) → covers (new_range (reference_at s p.at) p.offset p.mark) l ≡ true
        go (by_block e) = absurd (not_both (is_before l start (by_block e)) a)
        go (by_offset e f) =
            let never : l.offset < p.offset → ⊥ = λ g. not_both (is_before l start (by_offset e g)) a in
            and_both _ _ (same_reference_lem (sym e)) (within_yes p.offset p.mark l.offset (omega (arith, never)) f)

-- ---- the last one

-- the last of edges that ascend, none of which is after it, tells whether it is a beginning
pub record LastOf (s : Bytes) (es : List Row) (t : Bool) : Type 0 where
  pub edge : Row
  pub stands : edge ∈ es
  pub last : (f : Row) → f ∈ es → row_before s edge f ≡ false
  pub tells : last_begins t es ≡ begins edge

pub last_of : (s : Bytes) (e : Row) (es : List Row) (t : Bool) → Pairs (λ r q. row_before s q r ≡ false) (e ∷ es) → LastOf s (e ∷ es) t
unfolding last_begins
last_of s e [] t h = record { edge = e; stands = here; last = λ f m. only f (in_cases m); tells = refl }
  where
    only : (f : Row) → (f ≡ e) ⊎ (f ∈ []) → row_before s e f ≡ false
    only f (inl q) = subst (λ (x : Row). row_before s e x ≡ false) (sym q) (row_irrefl s e)
    only f (inr m) = absurd (in_empty m)
last_of s e (x ∷ xs) t (with_later h hs) = go (last_of s x xs (begins e) hs)
  where
    go : LastOf s (x ∷ xs) (begins e) → LastOf s (e ∷ x ∷ xs) t
    go w = record { edge = w.edge; stands = there w.stands; last = λ f m. any f (in_cases m); tells = w.tells }
      where
        any : (f : Row) → (f ≡ e) ⊎ (f ∈ (x ∷ xs)) → row_before s w.edge f ≡ false
        any f (inl q) = subst (λ (y : Row). row_before s w.edge y ≡ false) (sym q) (every_in (x ∷ xs) w.edge h w.stands)
        any f (inr m) = w.last f m
