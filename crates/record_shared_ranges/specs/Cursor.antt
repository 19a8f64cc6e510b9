-- Walking the statements of a record, and its runs of shares, one by one. Assumes nothing: these are definitions.
use Rattle.std.specs.Prelude.{ℕ, Some, None, ◌≤◌, ◌<◌, ◌≡◌, List, [], ◌∷◌, length, drop}
use Rattle.record_spec.specs.Reference.{TransactionLocatorRange, new_range}
use Rattle.base.specs.Le.{Bytes}
use Rattle.record_spec.specs.Block.{Block, runs_from}
use Rattle.record_spec.specs.Record.{block_in}
use Rattle.record_shared_ranges.specs.declared.SharedRange.{SharedRange}
use Rattle.std.specs.declared.option.Option.{Option}
use Rattle.record_cursor.specs.Cursor.{cursor_at}

-- the runs of shares from the statement of that index on: all of `shared_ranges` where it is the first
unfoldable pub runs_left : Block → ℕ → List TransactionLocatorRange
runs_left b i = runs_from b.reference i (drop i b.statements)

-- the runs that an answer stands for: one and those after it, or none
unfoldable pub runs_told : Block → Option SharedRange → List TransactionLocatorRange
runs_told b (Some run) = new_range b.reference run.start run.end ∷ runs_left b run.next.index
runs_told b None = []

-- the place that an answer gives stands further on in the record
unfoldable pub FurtherOn : Bytes → ℕ → Option SharedRange → Type 0
FurtherOn r i (Some run) = (i < run.next.index) × ((run.next.index ≤ length (block_in r).statements) × (run.next ≡ cursor_at r run.next.index))
FurtherOn r i None = Unit {0}
