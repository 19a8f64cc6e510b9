-- The edges of a block's ranges in a window, put after those of others. Assumes nothing: these are definitions.
use Rattle.std.specs.Prelude.{ℕ, ◌+◌, ◌*◌, ◌≤◌, ◌≡◌, List, ◌++◌, [], ◌∷◌, length, drop}
use Rattle.std.proofs.Math.Option.{Option}
use Rattle.base.specs.Lists.{keep}
use Rattle.base.specs.Le.{Bytes}
use Rattle.base.proofs.Lists.{Every, Pairs}
use Rattle.record_spec.specs.Reference.{TransactionLocator, TransactionLocatorRange}
use Rattle.list_row_sort.specs.Rows.{Row, rows_of, Inside}
use Rattle.list_range_rows.specs.Ranges.{any_covers, Apart, Proper}
use Rattle.list_edge_rows.specs.Edges.{edges_of, EdgesFit}
use Rattle.list_kind_ranges.specs.Kinds.{any_span, kind_ranges}
use Rattle.list_reach.specs.Reach.{Within}
use Rattle.list_cuts.specs.Cuts.{in_window}
use Rattle.list_kind_ranges.specs.declared.RangeKind.{RangeKind}
use Rattle.record_spec.specs.Block.{Block}

-- what that asks: room for all edges of m rows after the first n of another table, and the references of the rows in the store
pub record Takeable (s : Bytes) (t u : List ℕ) (m place n : ℕ) : Type 0 where
  pub fit : EdgesFit t u m place n
  pub inside : Inside s t m

-- the edges of the first m rows of a table that are in the window, put after the first n of another: k rows now; the words past the room for all stay
pub record EdgesTaken (s : Bytes) (last bound : Option TransactionLocator) (t u v : List ℕ) (m place n k : ℕ) : Type 0 where
  pub few : k ≤ n + 2 * m
  pub long : length v ≡ length u
  pub kept : drop (3 * (n + 2 * m)) v ≡ drop (3 * (n + 2 * m)) u
  pub rows : rows_of v k ≡ rows_of u n ++ keep (in_window s last bound) (edges_of place (rows_of t m))

-- rows that are right for some ranges: they ascend and are apart, and cover what these do of the locators from the last one on up to the bound
pub record OwnRows (s : Bytes) (last bound : Option TransactionLocator) (qs : List TransactionLocatorRange) (rs : List Row) : Type 0 where
  pub proper : Every (Proper s) rs
  pub apart : Pairs (Apart s) rs
  pub covering : (l : TransactionLocator) → Within last bound l → any_covers s rs l ≡ any_span qs l

-- an edge, if it is in the window, put after the first n rows of a table: k rows now
pub record EdgePut (s : Bytes) (last bound : Option TransactionLocator) (e : Row) (u v : List ℕ) (n k : ℕ) : Type 0 where
  pub few : k ≤ n + 1
  pub long : length v ≡ length u
  pub kept : drop (3 * (n + 1)) v ≡ drop (3 * (n + 1)) u
  pub rows : rows_of v k ≡ rows_of u n ++ keep (in_window s last bound) (e ∷ [])

-- the edges of a block that are in the window put after the first n rows of a table: k rows now
pub record BlockTaken (kind : RangeKind) (s : Bytes) (b : Block) (last bound : Option TransactionLocator) (u v : List ℕ) (place n k : ℕ) : Type 0 where
  pub few : k ≤ n + 2 * length b.statements
  pub long : length v ≡ length u
  pub own : List Row
  pub right : OwnRows s last bound (kind_ranges kind b) own
  pub rows : rows_of v k ≡ rows_of u n ++ keep (in_window s last bound) (edges_of place own)
