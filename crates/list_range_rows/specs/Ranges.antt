-- Rows of three words as ranges of locators: where the reference of the block stands in a store, the start, and the end, which is excluded. Assumes
-- nothing: these are definitions.
use Rattle.std.specs.Prelude.{ℕ, ◌+◌, ◌*◌, ◌≤◌, ◌<◌, ◌≡◌, Bool, true, List, length, drop}
use Rattle.base.specs.Lists.{any_of}
use Rattle.base.specs.Le.{Bytes}
use Rattle.base.proofs.Lists.{Every, Pairs}
use Rattle.record_spec.specs.Reference.{TransactionLocator, TransactionLocatorRange, locator, locator_before, new_range, covers}
use Rattle.record_reference_bytes.specs.Step.{reference_at}
use Rattle.list_row_sort.specs.Rows.{Row, rows_of, key_of, Sorted}

-- a row from its words
unfoldable pub new_row : ℕ → ℕ → ℕ → Row
new_row at start end = record { at = at; offset = start; mark = end }

-- its range
unfoldable pub row_range : Bytes → Row → TransactionLocatorRange
row_range s r = new_range (reference_at s r.at) r.offset r.mark

unfoldable pub row_covers : Bytes → TransactionLocator → Row → Bool
row_covers s l r = covers (row_range s r) l

-- some row covers the locator
unfoldable pub any_covers : Bytes → List Row → TransactionLocator → Bool
any_covers s rows l = any_of (row_covers s l) rows

-- the end of a row comes before the start of another: of one block they neither overlap nor touch
unfoldable pub ends_before : Bytes → Row → Row → Bool
ends_before s r q = locator_before (locator (reference_at s r.at) r.mark) (key_of s q)

unfoldable pub Apart : Bytes → Row → Row → Type 0
Apart s r q = ends_before s r q ≡ true

-- the reference stands in the store, and the range is not empty
pub record Proper (s : Bytes) (r : Row) : Type 0 where
  pub inside : r.at + 48 ≤ length s
  pub filled : r.offset < r.mark

-- what joining asks of the first n rows of a table
pub record Joinable (s : Bytes) (n : ℕ) (t : List ℕ) : Type 0 where
  pub room : 3 * n ≤ length t
  pub sorted : Sorted s (rows_of t n)
  pub proper : Every (Proper s) (rows_of t n)

-- what it leaves of them: m rows, at most as many, that ascend and are apart, and cover the same locators; the words past the n stay
pub record RowsJoined (s : Bytes) (n : ℕ) (t u : List ℕ) (m : ℕ) : Type 0 where
  pub few : m ≤ n
  pub long : length u ≡ length t
  pub kept : drop (3 * n) u ≡ drop (3 * n) t
  pub proper : Every (Proper s) (rows_of u m)
  pub apart : Pairs (Apart s) (rows_of u m)
  pub covering : (l : TransactionLocator) → any_covers s (rows_of u m) l ≡ any_covers s (rows_of t n) l
