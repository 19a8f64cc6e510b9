use Rattle.std.proofs.Common.{◌≡◌, ◌-◌, ◌≤◌, length}
use Rattle.record_spec.specs.Record.{block_in}
use Rattle.record_cursor.specs.Cursor.{cursor_at}
use Rattle.cards_types.proofs.print_runs.Given as goal

abbrev pub invariant-loop-run : goal.invariant-loop-run
invariant-loop-run g l = (l.cursor ≡ cursor_at l.rec l.cursor.index) × (l.cursor.index ≤ length (block_in l.rec).statements)

abbrev pub decreases-loop-run : goal.decreases-loop-run
decreases-loop-run g l = length (block_in l.rec).statements - l.cursor.index
