use mathlib.Core.Path.{◌≡◌}
use Prim.Native.Nat.{◌-◌, ◌≤◌}
use lib.ListN.{length, drop}
use Rattle.record_spec.specs.Record.{block_in}
use Rattle.record_cursor.specs.Cursor.{cursor_at}
use Rattle.record_check_statements.proofs.Statements.{of_statements}
use Rattle.record_check_statements.proofs.statements_refusal.Given as goal

abbrev pub invariant-loop-cursor : goal.invariant-loop-cursor
invariant-loop-cursor l =
    (l.cursor ≡ cursor_at l.rec l.cursor.index)
    × ((l.cursor.index ≤ length (block_in l.rec).statements) × (of_statements (block_in l.rec).statements ≡ of_statements
    (drop l.cursor.index (block_in l.rec).statements)))

abbrev pub decreases-loop-cursor : goal.decreases-loop-cursor
decreases-loop-cursor l = length (block_in l.rec).statements - l.cursor.index
