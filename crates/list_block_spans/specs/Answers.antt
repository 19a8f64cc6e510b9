-- What the code's answers say. Assumes nothing: these are definitions.
use Rattle.std.specs.Prelude.{ℕ, ◌≤◌, ◌<◌, ◌≡◌, List, [], ◌∷◌, length, None, Some, Option}
use Rattle.base.specs.Le.{Bytes}
use Rattle.record_spec.specs.Reference.{TransactionLocatorRange}
use Rattle.record_spec.specs.Block.{Block}
use Rattle.types.specs.Values.{as_range}
use Rattle.record_cursor.specs.Cursor.{cursor_at}
use Rattle.record_cursor.specs.declared.StatementCursor.{StatementCursor}
use Rattle.types.specs.declared.TransactionLocatorRange as ranges

-- the range voted for, or rejected, in a list
unfoldable pub voted_by : Option ranges.TransactionLocatorRange → List TransactionLocatorRange
voted_by (Some q) = as_range q ∷ []
voted_by None = []

-- a place further on in the record of a block
unfoldable pub OnwardIn : Block → Bytes → ℕ → StatementCursor → Type 0
OnwardIn b r i next = (i < next.index) × ((next.index ≤ length b.statements) × (next ≡ cursor_at r next.index))
