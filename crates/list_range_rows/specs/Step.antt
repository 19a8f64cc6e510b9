-- Machinery for the contracts of inner functions: a row joined to those before it. Assumes nothing: these are definitions.
use Rattle.std.specs.Prelude.{ℕ, ◌+◌, ◌*◌, ◌≤◌, ◌≡◌, List, [], ◌∷◌, ltb, length, drop}
use Rattle.base.specs.Lists.{pick}
use Rattle.base.specs.Le.{Bytes}
use Rattle.list_row_sort.specs.Rows.{Row, row_at, rows_of}
use Rattle.list_range_rows.specs.Ranges.{new_row, ends_before}

-- the greater of two ends
unfoldable pub later : ℕ → ℕ → ℕ
later e f = pick (ltb e f) f e

-- a row that goes on to the end of another
unfoldable pub widened : Row → Row → Row
widened q r = new_row q.at q.offset (later q.mark r.mark)

-- a row after the last one: it is one more, or lengthens that
unfoldable pub join_last : Bytes → Row → Row → List Row
join_last s q r = pick (ends_before s q r) (q ∷ r ∷ []) (widened q r ∷ [])

unfoldable pub join_in : Bytes → Row → List Row → Row → List Row
join_in s q [] r = join_last s q r
join_in s q (p ∷ ps) r = q ∷ join_in s p ps r

-- a row after others
unfoldable pub join_onto : Bytes → List Row → Row → List Row
join_onto s [] r = r ∷ []
join_onto s (q ∷ qs) r = join_in s q qs r

-- the row at index i is joined to the first m: k rows now
pub record RowJoined (s : Bytes) (t u : List ℕ) (m i k : ℕ) : Type 0 where
  pub few : k ≤ m + 1
  pub long : length u ≡ length t
  pub kept : drop (3 * (i + 1)) u ≡ drop (3 * (i + 1)) t
  pub rows : rows_of u k ≡ join_onto s (rows_of t m) (row_at t i)
