-- Cutting a table of rows that ascend after those that are not after the key of one of them. Assumes nothing.
use mathlib.Core.Path.{◌≡◌, sym, ap, ap₂, subst, ◌∙◌}
use mathlib.Core.Logic.{◌⊎◌, inl, inr}
use mathlib.Core.Bool.{true, false, not}
use mathlib.Core.List.{List, ◌++◌, append-nil}
use Prim.Native.Nat.{ℕ, ◌+◌, ◌-◌, ◌≤◌, ◌<◌}
use native.Mathlib.Omega.{arith}
use Rattle.base.specs.Lists.{keep}
use Rattle.base.specs.Le.{Bytes}
use Rattle.base.proofs.Tests.{not_both, holds_or_not}
use Rattle.base.proofs.Lists.{Every, keep_append}
use Rattle.base.proofs.Narrowed.{Narrowed, narrowed_start, narrowed_up, narrowed_down}
use Rattle.list_row_sort.specs.Rows.{Row, row_at, rows_from, rows_of, key_of, row_before}
use Rattle.list_row_sort.proofs.Order.{row_irrefl, row_after}
use Rattle.list_row_sort.proofs.Tables.{rows_split, rows_back, rows_every, row_dropped, sorted_at}
use Rattle.list_edge_rows.specs.Edges.{reached}
use Rattle.list_edge_rows.proofs.Together.{keep_all, keep_none}
use Rattle.list_cuts.specs.Cuts.{Cuttable, CutAt}

-- the row at an index is not after the one at another; or it is
abbrev pub Low : Bytes → List ℕ → ℕ → ℕ → Type 0
Low s t at j = row_before s (row_at t at) (row_at t j) ≡ false

abbrev pub High : Bytes → List ℕ → ℕ → ℕ → Type 0
High s t at j = row_before s (row_at t at) (row_at t j) ≡ true

module _ (s : Bytes) (t : List ℕ) (n at : ℕ) (can : Cuttable s t n at) where
  -- rows before one that is not after it are not either
  low_down : (m : ℕ) → m < n → Low s t at m → (i : ℕ) → i < m → Low s t at i
  low_down m h l i k = row_after s (row_at t i) (row_at t m) (row_at t at) (sorted_at s t n i m can.sorted k h) l

  -- and rows behind one that is after it are after it too
  high_up : (m : ℕ) → High s t at m → (i : ℕ) → m < i → i < n → High s t at i
  high_up m h i k l = go (holds_or_not (row_before s (row_at t at) (row_at t i)))
    where
      go : (High s t at i) ⊎ (Low s t at i) → High s t at i
      go (inl e) = e
      go (inr e) = absurd (not_both h (low_down i l e m k))

  own : Low s t at at
  own = row_irrefl s (row_at t at)

  pub cut_start : Narrowed n (Low s t at) (High s t at) (at + 1) n
  cut_start = narrowed_up n (Low s t at) (High s t at) 0 n at (low_down at can.below own) own can.below (narrowed_start n (Low s t at) (High s t at))

  pub cut_up : (low high m : ℕ) → Low s t at m → m < high → Narrowed n (Low s t at) (High s t at) low high → Narrowed n (Low s t at) (High s t at) (m + 1) high
  cut_up low high m l h r = narrowed_up n (Low s t at) (High s t at) low high m (low_down m (omega (arith, r.inside)) l) l h r

  pub cut_down : (low high m : ℕ) → High s t at m → low ≤ m → m < high → Narrowed n (Low s t at) (High s t at) low high → Narrowed n (Low s t at)
      (High s t at) low m
  cut_down low high m g l h r = narrowed_down n (Low s t at) (High s t at) low high m (high_up m g) g l h r

  pub cut_end : (m high : ℕ) → at < m → high ≤ m → Narrowed n (Low s t at) (High s t at) m high → CutAt s t n at m
  unfolding reached row_before
  cut_end m high h k r = record { more = h; few = most; rows = sym kept }
    where
      most : m ≤ n
      most = omega (arith, r.order, r.inside)

      first : Every (λ e. reached s (key_of s (row_at t at)) e ≡ true) (rows_of t m)
      first = rows_every t m (λ i l. ap not (r.below i l))

      later : Every (λ e. reached s (key_of s (row_at t at)) e ≡ false) (rows_from t m (n - m))
      later =
          subst (λ (xs : List Row). Every (λ e. reached s (key_of s (row_at t at)) e ≡ false) xs) (rows_back t m (n - m))
          (rows_every _ (n - m) (λ i l. rw (row_dropped t m i) (ap not (r.above (m + i) (omega arith) (omega arith)))))

      kept : keep (reached s (key_of s (row_at t at))) (rows_of t n) ≡ rows_of t m
      kept =
          ap (keep (reached s (key_of s (row_at t at)))) (rows_split t m n most)
          ∙ keep_append (reached s (key_of s (row_at t at))) (rows_of t m) (rows_from t m (n - m))
          ∙ ap₂ ◌++◌ (keep_all (reached s (key_of s (row_at t at))) (rows_of t m) first)
          (keep_none (reached s (key_of s (row_at t at))) (rows_from t m (n - m)) later)
          ∙ append-nil (rows_of t m)
