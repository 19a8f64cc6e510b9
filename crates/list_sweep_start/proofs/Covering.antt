-- Which rows cover a locator, and the marks of the lanes one after the other. Assumes nothing.
use mathlib.Core.Path.{◌≡◌, refl, ap, ◌∙◌}
use mathlib.Core.Bool.{Bool, true, false}
use mathlib.Core.List.{List, [], ◌∷◌}
use Prim.Native.Nat.{ℕ, ◌+◌, ◌<◌}
use native.Mathlib.Omega.{arith}
use native.Mathlib.Decide.{ℕ_discrete}
use lib.Dec.{eqb}
use lib.ListN.{length, get_or, set}
use lib.Seq.{get_or-set_same, get_or-set_other}
use Rattle.base.specs.Lists.{pick, any_of, count_from}
use Rattle.base.specs.Le.{Bytes}
use Rattle.base.proofs.Tests.{not_both, fails}
use Rattle.base.proofs.Members.{in_any}
use Rattle.record_spec.specs.Reference.{TransactionLocator, locator_before}
use Rattle.list_row_sort.specs.Rows.{Row, row_at, rows_from, rows_of, key_of}
use Rattle.list_row_sort.proofs.Tables.{rows_more, row_in}
use Rattle.list_range_rows.specs.Ranges.{row_covers, any_covers}
use Rattle.list_range_rows.proofs.Ranges.{covers_append}
use Rattle.list_edge_rows.specs.Edges.{start_edge, end_edge}
use Rattle.list_edge_rows.proofs.Order.{covers_start, covers_end, covers_between}
use Rattle.list_kind_ranges.specs.Kinds.{any_span}
use Rattle.list_lanes.specs.Lanes.{Lanes}

-- ---- the rows of a block

module _ (s : Bytes) (t : List ℕ) (l : TransactionLocator) where
  pub none_covers : any_covers s (rows_of t 0) l ≡ false
  unfolding any_covers any_of rows_of rows_from count_from
  none_covers = refl

  one_more : (i : ℕ) → any_covers s (rows_of t i) l ≡ false → row_covers s l (row_at t i) ≡ false → any_covers s (rows_of t (i + 1)) l ≡ false
  unfolding any_covers any_of
  one_more i h k = ap (λ (xs : List Row). any_of (row_covers s l) xs) (rows_more t i) ∙ covers_append s (rows_of t i) (row_at t i ∷ []) l ∙ rw (h, k)

  -- it begins after the locator
  pub later_row : (i : ℕ) → any_covers s (rows_of t i) l ≡ false → locator_before l (key_of s (start_edge 0 (row_at t i))) ≡ true
      → any_covers s (rows_of t (i + 1)) l
      ≡ false
  later_row i h k = one_more i h (fails (row_covers s l (row_at t i)) (λ c. not_both k (covers_start s 0 (row_at t i) l c)))

  -- or ends there or before
  pub earlier_row : (i : ℕ) → any_covers s (rows_of t i) l ≡ false → locator_before l (key_of s (end_edge 0 (row_at t i))) ≡ false
      → any_covers s (rows_of t (i + 1))
      l ≡ false
  earlier_row i h k = one_more i h (fails (row_covers s l (row_at t i)) (λ c. not_both (covers_end s 0 (row_at t i) l c) k))

  pub covering_row : (m i : ℕ) → i < m → locator_before l (key_of s (start_edge 0 (row_at t i))) ≡ false → locator_before l (key_of s (end_edge 0 (row_at t i)))
      ≡
      true → any_covers s (rows_of t m) l ≡ true
  unfolding any_covers
  covering_row m i h a b = in_any (row_covers s l) (row_in t m i h) (covers_between s 0 (row_at t i) l a b)

-- ---- the lanes

abbrev pub MarkedBelow : Lanes → List ℕ → TransactionLocator → ℕ → Type 0
MarkedBelow lanes marks l n = (k : ℕ) → k < n → eqb (get_or marks k 0) 1 ≡ any_span (lanes k) l

flag_is : (t : Bool) → eqb (pick t 1 0) 1 ≡ t
flag_is true = refl
flag_is false = refl

pub marked_more : (lanes : Lanes) (marks : List ℕ) (l : TransactionLocator) (n f : ℕ) (t : Bool) → n < length marks → MarkedBelow lanes marks l n → t ≡
    any_span (lanes n) l → f ≡ pick t 1 0
    → MarkedBelow lanes (set marks n f) l (n + 1)
marked_more lanes marks l n f t h w e q k m = go (ℕ_discrete k n)
  where
    go : Dec (k ≡ n) → eqb (get_or (set marks n f) k 0) 1 ≡ any_span (lanes k) l
    go (yes z) = rw (z, get_or-set_same marks n f 0 h, q) (flag_is t ∙ e)
    go (no z) = rw (get_or-set_other marks n k f 0 z) (w k (omega arith))
