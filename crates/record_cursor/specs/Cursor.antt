-- Walking the statements of a record one by one. Assumes nothing: these are definitions.
use Rattle.std.specs.Prelude.{ℕ}
use Rattle.base.specs.Le.{Bytes}
use Rattle.record_spec.specs.Record.{statement_start}
use Rattle.record_cursor.specs.declared.StatementCursor.{StatementCursor}

-- the place of the statement of that index
unfoldable pub cursor_at : Bytes → ℕ → StatementCursor
cursor_at r i = record { at = statement_start r i; index = i }
