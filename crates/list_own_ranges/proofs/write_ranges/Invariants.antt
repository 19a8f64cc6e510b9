use Prim.Native.Nat.{◌-◌, ◌≤◌}
use mathlib.Core.Path.{◌≡◌}
use lib.ListN.{length}
use Rattle.record_spec.specs.Record.{block_in}
use Rattle.record_cursor.specs.Cursor.{cursor_at}
use Rattle.types.specs.Values.{as_maybe}
use Rattle.list_own_ranges.specs.Step.{Written}
use Rattle.list_own_ranges.proofs.write_ranges.Given as goal

abbrev pub invariant-loop-cursor : goal.invariant-loop-cursor
invariant-loop-cursor l = (l.cursor ≡ cursor_at l.rec l.cursor.index) ×
    ((l.cursor.index ≤ length (block_in l.rec).statements)
    × Written l.kind (as_maybe l.last) (as_maybe l.bound) l.store (block_in l.rec) l.initial.rows l.rows l.n l.cursor.index)

abbrev pub decreases-loop-cursor : goal.decreases-loop-cursor
decreases-loop-cursor l = length (block_in l.rec).statements - l.cursor.index
