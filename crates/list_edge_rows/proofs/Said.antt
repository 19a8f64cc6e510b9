-- The edges of a block's ranges, in ascending order, say which locators these cover: those at or before which the last edge is a beginning. Assumes nothing.
use mathlib.Core.Path.{◌≡◌, refl, sym, subst, ◌∙◌}
use mathlib.Core.Logic.{◌⊎◌, inl, inr}
use mathlib.Core.Bool.{Bool, true, false, not}
use mathlib.Core.List.{List, [], ◌∷◌}
use Prim.Native.Nat.{ℕ}
use Rattle.base.specs.Lists.{keep, ◌∈◌}
use Rattle.base.specs.Le.{Bytes}
use Rattle.base.proofs.Tests.{fails, not_both, holds_or_not}
use Rattle.base.proofs.Members.{in_empty, in_keep, keep_in, any_in, in_any}
use Rattle.base.proofs.Lists.{Every, Pairs, every_in, pairs_keep}
use Rattle.record_spec.specs.Reference.{TransactionLocator, locator_before}
use Rattle.record_spec.proofs.References.{locator_trans}
use Rattle.list_row_sort.specs.Rows.{Row, key_of, row_before, Sorted, Permuted}
use Rattle.list_row_sort.proofs.Permutations.{permuted_in, in_permuted}
use Rattle.list_range_rows.specs.Ranges.{new_row, row_covers, any_covers, ends_before, Apart, Proper}
use Rattle.list_edge_rows.specs.Edges.{start_edge, end_edge, edges_of, begins, reached, last_begins, open_at}
use Rattle.list_edge_rows.proofs.Edges.{start_begins, end_ends, Edge, start_of, end_of, start_in, end_in, edge_in}
use Rattle.list_edge_rows.proofs.Order.{in_pairs, start_before, covers_start, covers_end, covers_between, LastOf, last_of}

not_reached : (t : Bool) → not t ≡ true → t ≡ false
not_reached true h = absurd (not_both h refl)
not_reached false h = refl

is_reached : (t : Bool) → t ≡ false → not t ≡ true
is_reached t h = rw h

-- rows that are apart: the end of one comes before the start of the other
end_to_start : (s : Bytes) (k : ℕ) (p q : Row) → Apart s p q → row_before s (end_edge k p) (start_edge k q) ≡ true
unfolding Apart ends_before row_before key_of start_edge end_edge new_row
end_to_start s k p q e = e

module _ (s : Bytes) (k : ℕ) (rows es : List Row) (proper : Every (Proper s) rows) (apart : Pairs (Apart s) rows) (same : Permuted es (edges_of k rows))
    (sorted : Sorted s es) (l : TransactionLocator) where
  abbrev passed : List Row
  passed = keep (reached s l) es

  -- an edge that is at the locator or before it is among those
  start_passed : {q : Row} → q ∈ rows → row_covers s l q ≡ true → start_edge k q ∈ passed
  unfolding reached
  start_passed {q} m h = in_keep (reached s l) es (in_permuted same (start_in k rows m)) (is_reached _ (covers_start s k q l h))

  -- the last of them is a beginning: of a row that ends after the locator
  last_start : (p : Row) → p ∈ rows → locator_before l (key_of s (start_edge k p)) ≡ false → ((f : Row) → f ∈ passed → row_before s (start_edge k p) f ≡ false)
      →
      any_covers s rows l ≡ true
  unfolding any_covers reached
  last_start p m h last = in_any (row_covers s l) m (covers_between s k p l h (ends (holds_or_not (locator_before l (key_of s (end_edge k p))))))
    where
      ends : (locator_before l (key_of s (end_edge k p)) ≡ true) ⊎ (locator_before l (key_of s (end_edge k p)) ≡ false)
          → locator_before l (key_of s (end_edge k p)) ≡
          true
      ends (inl e) = e
      ends (inr e) = absurd (not_both (start_before s k p (every_in rows p proper m))
          (last (end_edge k p) (in_keep (reached s l) es (in_permuted same (end_in k rows m)) (is_reached _ e))))

  -- or an end: then no row that begins at the locator or before it ends after it
  last_end : (p : Row) → p ∈ rows → locator_before l (key_of s (end_edge k p)) ≡ false → ((f : Row) → f ∈ passed → row_before s (end_edge k p) f ≡ false) →
      any_covers s rows l ≡ true → ⊥
  unfolding any_covers row_before
  last_end p m h last c =
      let x = any_in (row_covers s l) rows c in
      go x.0 x.2 (last (start_edge k x.0) (start_passed x.1 x.2)) (in_pairs rows apart m x.1)
    where
      go : (q : Row) → row_covers s l q ≡ true → row_before s (end_edge k p) (start_edge k q) ≡ false → (p ≡ q) ⊎ (Apart s p q ⊎ Apart s q p) → ⊥
      go q d n (inl e) = not_both (subst (λ (y : Row). locator_before l (key_of s (end_edge k y)) ≡ true) (sym e) (covers_end s k q l d)) h
      go q d n (inr (inl e)) = not_both (end_to_start s k p q e) n
      go q d n (inr (inr e)) =
          not_both (locator_trans l (key_of s (start_edge k p)) (key_of s (end_edge k p))
          (locator_trans l (key_of s (end_edge k q)) (key_of s (start_edge k p)) (covers_end s k q l d) (end_to_start s k q p e))
          (start_before s k p (every_in rows p proper m))) h

  told : (xs : List Row) → xs ≡ passed → last_begins false xs ≡ any_covers s rows l
  unfolding last_begins any_covers reached Sorted
  told [] e = sym (fails _ (λ c. let x = any_in (row_covers s l) rows c in in_empty
      (subst (λ (ys : List Row). start_edge k x.0 ∈ ys) (sym e) (start_passed x.1 x.2))))
  told (x ∷ xs) e = w.tells ∙ go (edge_in k rows (permuted_in same of.0)) (not_reached _ of.1) w.last
    where
      ascending : Pairs (λ r q. row_before s q r ≡ false) (x ∷ xs)
      ascending = subst (λ (ys : List Row). Pairs (λ r q. row_before s q r ≡ false) ys) (sym e) (pairs_keep (reached s l) es sorted)

      w : LastOf s (x ∷ xs) false
      w = last_of s x xs false ascending

      of : (w.edge ∈ es) × (reached s l w.edge ≡ true)
      of = keep_in (reached s l) es (subst (λ (ys : List Row). w.edge ∈ ys) e w.stands)

      go : {z : Row} → Edge k rows z → locator_before l (key_of s z) ≡ false → ((f : Row) → f ∈ (x ∷ xs) → row_before s z f ≡ false) → begins z ≡ any_covers s
          rows l
      go (start_of p m) h last = start_begins k p ∙ sym (last_start p m h (λ f n. last f (subst (λ (ys : List Row). f ∈ ys) (sym e) n)))
      go (end_of p m) h last = end_ends k p ∙ sym (fails _ (last_end p m h (λ f n. last f (subst (λ (ys : List Row). f ∈ ys) (sym e) n))))

  -- a locator is covered exactly where the last edge at or before it is a beginning
  pub edges_say : open_at s es l ≡ any_covers s rows l
  unfolding open_at
  edges_say = told passed refl
