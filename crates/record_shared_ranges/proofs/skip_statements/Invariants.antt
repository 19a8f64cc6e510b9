use mathlib.Core.Path.{◌≡◌}
use Prim.Native.Nat.{◌+◌, ◌-◌, ◌≤◌}
use lib.ListN.{length, drop}
use Rattle.record_spec.specs.Record.{block_in}
use Rattle.record_cursor.specs.Cursor.{cursor_at}
use Rattle.record_shared_ranges.specs.Step.{leading}
use Rattle.record_shared_ranges.proofs.skip_statements.Given as goal

abbrev pub invariant-loop-cursor : goal.invariant-loop-cursor
invariant-loop-cursor l =
    (l.cursor ≡ cursor_at l.rec l.cursor.index)
    × ((l.cursor.index ≤ length (block_in l.rec).statements)
    × (l.initial.cursor.index + leading l.shares (drop l.initial.cursor.index (block_in l.rec).statements) ≡ l.cursor.index + leading l.shares
    (drop l.cursor.index (block_in l.rec).statements)))

abbrev pub decreases-loop-cursor : goal.decreases-loop-cursor
decreases-loop-cursor l = length (block_in l.rec).statements - l.cursor.index
