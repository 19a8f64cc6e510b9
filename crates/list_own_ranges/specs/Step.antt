-- Machinery for the contracts of inner functions: the ranges of a record's statements as rows, one after the other. Assumes nothing: these are
-- definitions.
use Rattle.std.specs.Prelude.{ℕ, ◌+◌, ◌*◌, ◌≤◌, ◌≡◌, ◌||◌, List, map, ◌++◌, length, drop}
use Rattle.std.proofs.Math.Option.{Option}
use Rattle.base.specs.Lists.{keep}
use Rattle.base.specs.Le.{Bytes}
use Rattle.base.proofs.Lists.{Every}
use Rattle.record_spec.specs.Reference.{TransactionLocator, TransactionLocatorRange}
use Rattle.record_spec.specs.Block.{Block}
use Rattle.list_row_sort.specs.Rows.{Row, rows_of}
use Rattle.list_range_rows.specs.Ranges.{new_row, any_covers, Proper}
use Rattle.list_kind_ranges.specs.Kinds.{kind_ranges_at, kind_ranges, any_span}
use Rattle.list_reach.specs.Reach.{Within, in_reach}
use Rattle.list_kind_ranges.specs.declared.RangeKind.{RangeKind}

-- ranges whose references stand at a position as rows, without those that are out of reach
unfoldable pub rows_as : Option TransactionLocator → Option TransactionLocator → ℕ → List TransactionLocatorRange → List Row
rows_as last bound at qs = map (λ q. new_row at q.start q.end) (keep (in_reach last bound) qs)

-- at most one of them put after the first n rows of a table: k rows now
pub record RangePut (last bound : Option TransactionLocator) (at : ℕ) (qs : List TransactionLocatorRange) (t u : List ℕ) (n k : ℕ) : Type 0 where
  pub few : k ≤ n + 1
  pub long : length u ≡ length t
  pub kept : drop (3 * (n + 1)) u ≡ drop (3 * (n + 1)) t
  pub rows : rows_of u k ≡ rows_of t n ++ rows_as last bound at qs

-- the first m rows of a table are those of the statements before index i, as far as they matter within
pub record Written (kind : RangeKind) (last bound : Option TransactionLocator) (s : Bytes) (b : Block) (t u : List ℕ) (m i : ℕ) : Type 0 where
  pub few : m ≤ i
  pub long : length u ≡ length t
  pub kept : drop (3 * i) u ≡ drop (3 * i) t
  pub proper : Every (Proper s) (rows_of u m)
  pub covering : (l : TransactionLocator) → Within last bound l → any_covers s (rows_of u m) l || any_span (kind_ranges_at kind b i) l ≡ any_span
      (kind_ranges kind b) l
