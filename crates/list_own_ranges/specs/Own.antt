-- The ranges of a kind of the block of a stored record in a table of rows. Assumes nothing: these are definitions.
use Rattle.std.specs.Prelude.{ℕ, ◌*◌, ◌≤◌, ◌≡◌, true, List, length, take, drop}
use Rattle.std.proofs.Math.Option.{Option}
use Rattle.base.specs.Le.{Bytes}
use Rattle.base.proofs.Lists.{Every, Pairs}
use Rattle.record_spec.specs.Reference.{TransactionLocator}
use Rattle.record_spec.specs.Block.{Block}
use Rattle.record_spec.specs.Record.{well_formed, block_in}
use Rattle.list_block_spans.specs.Joined.{VotesFit}
use Rattle.list_row_sort.specs.Rows.{rows_of}
use Rattle.list_range_rows.specs.Ranges.{any_covers, Apart, Proper}
use Rattle.list_kind_ranges.specs.Kinds.{kind_ranges, any_span}
use Rattle.list_kind_ranges.specs.declared.RangeKind.{RangeKind}
use Rattle.list_reach.specs.Reach.{Within}

-- a well-formed record whose bytes stand in a store from a position on, and whose votes end at the last offset or before
pub record Recorded (s : Bytes) (start : ℕ) (r : Bytes) : Type 0 where
  pub formed : well_formed r ≡ true
  pub fits : VotesFit (block_in r)
  pub stands : take (length r) (drop start s) ≡ r

-- room in a table for a row of each statement
unfoldable pub Roomy : Block → List ℕ → Type 0
Roomy b t = 3 * length b.statements ≤ length t

-- m rows of a table, at most as many as there are statements, ascend and are apart, and cover of the locators within what its ranges of a kind do; the
-- words past those of as many rows as statements stay
pub record OwnRanges (kind : RangeKind) (last bound : Option TransactionLocator) (s : Bytes) (b : Block) (t u : List ℕ) (m : ℕ) : Type 0 where
  pub few : m ≤ length b.statements
  pub long : length u ≡ length t
  pub kept : drop (3 * length b.statements) u ≡ drop (3 * length b.statements) t
  pub proper : Every (Proper s) (rows_of u m)
  pub apart : Pairs (Apart s) (rows_of u m)
  pub covering : (l : TransactionLocator) → Within last bound l → any_covers s (rows_of u m) l ≡ any_span (kind_ranges kind b) l
