use Prim.Native.Nat.{◌-◌, ◌≤◌}
use lib.ListN.{length}
use Rattle.record_spec.specs.Record.{block_in}
use mathlib.Core.Path.{◌≡◌}
use Rattle.types.specs.Values.{as_locator}
use Rattle.record_cursor.specs.Cursor.{cursor_at}
use Rattle.final_readings_spec.specs.Rejecting.{rejects}
use Rattle.final_block_rejects.proofs.Reading.{rejects_from}
use Rattle.final_block_rejects.proofs.rejects.Given as goal

abbrev pub invariant-loop-cursor : goal.invariant-loop-cursor
invariant-loop-cursor l = (l.cursor ≡ cursor_at l.rec l.cursor.index) ×
    ((l.cursor.index ≤ length (block_in l.rec).statements)
    × (rejects (block_in l.rec) (as_locator l.locator) ≡ rejects_from (block_in l.rec) (as_locator l.locator)
    l.cursor.index))

abbrev pub decreases-loop-cursor : goal.decreases-loop-cursor
decreases-loop-cursor l = length (block_in l.rec).statements - l.cursor.index
