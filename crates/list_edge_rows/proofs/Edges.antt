-- The edges of rows: which there are, what their marks say, and those of several blocks together. Assumes nothing.
use mathlib.Core.Path.{◌≡◌, refl, sym, ap, subst, ◌∙◌}
use mathlib.Core.Logic.{◌⊎◌, inl, inr}
use mathlib.Core.Bool.{true, false}
use mathlib.Core.List.{List, [], ◌∷◌, ◌++◌}
use Prim.Native.Nat.{ℕ, ◌+◌, ◌*◌, ◌%◌}
use native.Mathlib.Omega.{arith}
use borrow.Author.Tests.{eq-eqb, ne_eqb}
use Rattle.base.specs.Lists.{keep, ◌∈◌, here, there}
use Rattle.base.proofs.Members.{in_empty, in_cases}
use Rattle.list_row_sort.specs.Rows.{Row}
use Rattle.list_range_rows.specs.Ranges.{new_row}
use Rattle.list_edge_rows.specs.Edges.{start_edge, end_edge, edges_of, begins, place_of, of_place}

module _ (k : ℕ) where
  -- ---- what the marks say

  pub start_begins : (r : Row) → begins (start_edge k r) ≡ true
  unfolding begins start_edge new_row
  start_begins r = let e : (2 * k + 1) % 2 ≡ 1 = omega arith in rw e

  pub end_ends : (r : Row) → begins (end_edge k r) ≡ false
  unfolding begins end_edge new_row
  end_ends r = let e : 2 * k % 2 ≡ 0 = omega arith in rw e

  pub start_place : (r : Row) → place_of (start_edge k r) ≡ k
  unfolding place_of start_edge new_row
  start_place r = omega arith

  pub end_place : (r : Row) → place_of (end_edge k r) ≡ k
  unfolding place_of end_edge new_row
  end_place r = omega arith

  -- of the edges of several blocks those of a place are its own
  pub edges_own : (rs : List Row) → keep (of_place k) (edges_of k rs) ≡ edges_of k rs
  unfolding keep edges_of of_place
  edges_own [] = refl
  edges_own (r ∷ rs) = rw (eq-eqb (place_of (start_edge k r)) k (start_place r), eq-eqb (place_of (end_edge k r)) k (end_place r))
      (ap (λ (es : List Row). start_edge k r ∷ end_edge k r ∷ es) (edges_own rs))

  pub edges_others : (j : ℕ) → (k ≡ j → ⊥) → (rs : List Row) → keep (of_place j) (edges_of k rs) ≡ []
  unfolding keep edges_of of_place
  edges_others j n [] = refl
  edges_others j n (r ∷ rs) =
      rw (ne_eqb (place_of (start_edge k r)) j (λ e. n (sym (start_place r) ∙ e)), ne_eqb (place_of (end_edge k r)) j (λ e. n (sym (end_place r) ∙ e)))
      (edges_others j n rs)

  -- ---- which there are

  pub data Edge (rs : List Row) : Row → Type 0 where
    start_of : (p : Row) → p ∈ rs → Edge rs (start_edge k p)
    end_of : (p : Row) → p ∈ rs → Edge rs (end_edge k p)

  pub start_in : {p : Row} (rs : List Row) → p ∈ rs → start_edge k p ∈ edges_of k rs
  unfolding edges_of
  start_in {p = p} [] x' = elim x' [ ]
  start_in (r ∷ rs) here = here
  start_in (r ∷ rs) (there m) = there (there (start_in rs m))

  pub end_in : {p : Row} (rs : List Row) → p ∈ rs → end_edge k p ∈ edges_of k rs
  unfolding edges_of
  end_in {p = p} [] x' = elim x' [ ]
  end_in (r ∷ rs) here = there here
  end_in (r ∷ rs) (there m) = there (there (end_in rs m))

  more : (r : Row) {rs : List Row} {e : Row} → Edge rs e → Edge (r ∷ rs) e
  more r (start_of p m) = start_of p (there m)
  more r (end_of p m) = end_of p (there m)

  pub edge_in : {e : Row} (rs : List Row) → e ∈ edges_of k rs → Edge rs e
  unfolding edges_of
  edge_in [] m = absurd (in_empty m)
  edge_in {e} (r ∷ rs) m = first (λ n. edge_in rs n) (in_cases m)
    where
      second : (e ∈ edges_of k rs → Edge rs e) → (e ≡ end_edge k r) ⊎ (e ∈ edges_of k rs) → Edge (r ∷ rs) e
      second g (inl q) = subst (λ (x : Row). Edge (r ∷ rs) x) (sym q) (end_of r here)
      second g (inr n) = more r (g n)

      first : (e ∈ edges_of k rs → Edge rs e) → (e ≡ start_edge k r) ⊎ (e ∈ (end_edge k r ∷ edges_of k rs)) → Edge (r ∷ rs) e
      first g (inl q) = subst (λ (x : Row). Edge (r ∷ rs) x) (sym q) (start_of r here)
      first g (inr n) = second g (in_cases n)

  -- those of one row more
  pub edges_more : (rs : List Row) (r : Row) → edges_of k (rs ++ r ∷ []) ≡ edges_of k rs ++ start_edge k r ∷ end_edge k r ∷ []
  unfolding edges_of
  edges_more [] r = refl
  edges_more (x ∷ xs) r = ap (λ (es : List Row). start_edge k x ∷ end_edge k x ∷ es) (edges_more xs r)
