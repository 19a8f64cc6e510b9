-- Edges in a window of locators, those after a locator, or all, up to a bound, where there is one; and a table of them that is cut. Assumes nothing: these are
-- definitions.
use Rattle.std.specs.Prelude.{ℕ, ◌*◌, ◌≤◌, ◌<◌, ◌≡◌, Bool, not, ◌&&◌, List, length}
use Rattle.std.proofs.Math.Option.{Option, some}
use Rattle.base.specs.Lists.{keep, ◌∈◌}
use Rattle.base.specs.Le.{Bytes}
use Rattle.record_spec.specs.Reference.{TransactionLocator}
use Rattle.final_spec.specs.NextFinal.{is_after}
use Rattle.list_row_sort.specs.Rows.{Row, row_at, rows_of, key_of, Sorted, Permuted, Inside}
use Rattle.list_edge_rows.specs.Edges.{reached}
use Rattle.list_order.specs.Row.{is_after_best}

-- after the last locator, where there is one, and not after the bound, where there is one
unfoldable pub in_window : Bytes → Option TransactionLocator → Option TransactionLocator → Row → Bool
in_window s last bound e = is_after last (key_of s e) && not (is_after_best bound (key_of s e))

-- what cutting asks: n rows that ascend, whose references stand in the store, and one of them
pub record Cuttable (s : Bytes) (t : List ℕ) (n at : ℕ) : Type 0 where
  pub room : 3 * n ≤ length t
  pub inside : Inside s t n
  pub sorted : Sorted s (rows_of t n)
  pub below : at < n

-- the first m rows are those of the n that are not after the key of one of them, which is among them
pub record CutAt (s : Bytes) (t : List ℕ) (n at m : ℕ) : Type 0 where
  pub more : at < m
  pub few : m ≤ n
  pub rows : rows_of t m ≡ keep (reached s (key_of s (row_at t at))) (rows_of t n)

-- the first n rows of a table are those of some edges that are in the window, in any order; where there is a bound, one of them is at it
pub record Held (s : Bytes) (last bound : Option TransactionLocator) (t : List ℕ) (n : ℕ) (es : List Row) : Type 0 where
  pub room : 3 * n ≤ length t
  pub inside : Inside s t n
  pub rows : Permuted (rows_of t n) (keep (in_window s last bound) es)
  pub stands : (l : TransactionLocator) → bound ≡ some l → (e : Row) × ((e ∈ rows_of t n) × (key_of s e ≡ l))
