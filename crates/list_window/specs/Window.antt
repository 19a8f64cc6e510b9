-- The edges of all lanes in a window of locators. Assumes nothing: these are definitions.
use Rattle.std.specs.Prelude.{ℕ, ◌<◌, ◌≡◌, Bool, false, List, [], length, get_or}
use Rattle.std.proofs.Math.Option.{Option, none, some}
use Rattle.base.specs.Le.{Bytes}
use Rattle.record_spec.specs.Reference.{TransactionLocator, TransactionLocatorRange}
use Rattle.list_row_sort.specs.Rows.{Row, rows_of, Sorted}
use Rattle.list_edge_rows.specs.Edges.{edges_from}
use Rattle.list_kind_ranges.specs.Kinds.{any_span}
use Rattle.list_lanes.specs.Lanes.{Lanes}
use Rattle.list_cuts.specs.Cuts.{Held}
use Rattle.list_block_edges.specs.Taken.{OwnRows}

-- they are the edges of the first k lanes, each with rows that are right for it
pub record Gathering (lanes : Lanes) (s : Bytes) (last bound : Option TransactionLocator) (t : List ℕ) (n k : ℕ) : Type 0 where
  pub rss : List (List Row)
  pub many : length rss ≡ k
  pub right : (j : ℕ) → j < k → OwnRows s last bound (lanes j) (get_or rss j [])
  pub held : Held s last bound t n (edges_from 0 rss)

-- of all lanes, and they ascend: without a bound all their edges after the last locator, else those that are not after the bound
pub record Gathered (lanes : Lanes) (s : Bytes) (last bound : Option TransactionLocator) (t : List ℕ) (n : ℕ) : Type 0 where
  pub all : Gathering lanes s last bound t n 3072
  pub sorted : Sorted s (rows_of t n)

-- what some ranges say of the last locator; nothing of none
unfoldable pub said_at : List TransactionLocatorRange → Option TransactionLocator → Bool
said_at qs none = false
said_at qs (some m) = any_span qs m
