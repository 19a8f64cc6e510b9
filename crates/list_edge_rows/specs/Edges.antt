-- The edges of rows as ranges: where each begins and where it ends, with the place of the block whose ranges they are. Assumes nothing: these are
-- definitions.
use Rattle.std.specs.Prelude.{ℕ, ◌+◌, ◌*◌, ◌/◌, ◌%◌, ◌≤◌, ◌<◌, ◌≡◌, Bool, false, not, List, [], ◌∷◌, ◌++◌, eqb, length, drop}
use Rattle.base.specs.Lists.{keep}
use Rattle.base.specs.Le.{Bytes}
use Rattle.record_spec.specs.Reference.{TransactionLocator, locator_before}
use Rattle.list_row_sort.specs.Rows.{Row, rows_of, key_of}
use Rattle.list_range_rows.specs.Ranges.{new_row}

-- where a range of the block at place k begins: an odd mark; and where it ends: an even one
unfoldable pub start_edge : ℕ → Row → Row
start_edge k r = new_row r.at r.offset (2 * k + 1)

unfoldable pub end_edge : ℕ → Row → Row
end_edge k r = new_row r.at r.mark (2 * k)

-- those of each row, one after the other
unfoldable pub edges_of : ℕ → List Row → List Row
edges_of k [] = []
edges_of k (r ∷ rs) = start_edge k r ∷ end_edge k r ∷ edges_of k rs

-- what the mark says
unfoldable pub begins : Row → Bool
begins e = eqb (e.mark % 2) 1

unfoldable pub place_of : Row → ℕ
place_of e = e.mark / 2

unfoldable pub of_place : ℕ → Row → Bool
of_place k e = eqb (place_of e) k

-- the edges of the rows of several blocks, the first of them at place i
unfoldable pub edges_from : ℕ → List (List Row) → List Row
edges_from i [] = []
edges_from i (rs ∷ rss) = edges_of i rs ++ edges_from (i + 1) rss

-- the edge is at the locator or before it
unfoldable pub reached : Bytes → TransactionLocator → Row → Bool
reached s l e = not (locator_before l (key_of s e))

-- the last edge is a beginning; without one as it was before
unfoldable pub last_begins : Bool → List Row → Bool
last_begins t [] = t
last_begins t (e ∷ es) = last_begins (begins e) es

-- the last of the edges at or before the locator is a beginning
unfoldable pub open_at : Bytes → List Row → TransactionLocator → Bool
open_at s es l = last_begins false (keep (reached s l) es)

-- room for the edges of m rows after the first n of a table
pub record EdgesFit (t u : List ℕ) (m place n : ℕ) : Type 0 where
  pub rows : 3 * m ≤ length t
  pub room : 3 * (n + 2 * m) ≤ length u
  pub small : place < 9223372036854775808

-- the edges of the first m rows of a table put after the first n of another: k rows now; the words past them stay
pub record Edged (t u v : List ℕ) (m place n k : ℕ) : Type 0 where
  pub many : k ≡ n + 2 * m
  pub long : length v ≡ length u
  pub kept : drop (3 * k) v ≡ drop (3 * k) u
  pub rows : rows_of v k ≡ rows_of u n ++ edges_of place (rows_of t m)
