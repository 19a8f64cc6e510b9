use mathlib.Core.Path.{◌≡◌}
use Prim.Native.Nat.{◌+◌, ◌-◌, ◌*◌, ◌≤◌}
use lib.ListN.{length, drop}
use Rattle.record_spec.specs.Record.{block_in}
use Rattle.record_cursor.specs.Cursor.{cursor_at}
use Rattle.record_shared_ranges.proofs.Walk.{offsets_counted}
use Rattle.record_shared_ranges.proofs.event_words.Given as goal

abbrev pub invariant-loop-cursor : goal.invariant-loop-cursor
invariant-loop-cursor l =
    (l.cursor ≡ cursor_at l.rec l.cursor.index)
    × ((l.cursor.index ≤ length (block_in l.rec).statements)
    × ((l.offsets ≤ 1048575 * l.cursor.index) × (l.offsets + offsets_counted (drop l.cursor.index (block_in l.rec).statements) ≡ offsets_counted
    (block_in l.rec).statements)))

abbrev pub decreases-loop-cursor : goal.decreases-loop-cursor
decreases-loop-cursor l = length (block_in l.rec).statements - l.cursor.index
