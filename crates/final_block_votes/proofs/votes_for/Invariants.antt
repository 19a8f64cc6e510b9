use Prim.Native.Nat.{◌-◌, ◌≤◌}
use lib.ListN.{length}
use Rattle.record_spec.specs.Record.{block_in}
use mathlib.Core.Path.{◌≡◌}
use Rattle.types.specs.Values.{as_locator}
use Rattle.record_cursor.specs.Cursor.{cursor_at}
use Rattle.final_spec.specs.Voters.{votes_for}
use Rattle.final_block_votes.proofs.Reading.{votes_from}
use Rattle.final_block_votes.proofs.votes_for.Given as goal

abbrev pub invariant-loop-cursor : goal.invariant-loop-cursor
invariant-loop-cursor l = (l.cursor ≡ cursor_at l.rec l.cursor.index) ×
    ((l.cursor.index ≤ length (block_in l.rec).statements)
    × (votes_for (block_in l.rec) (as_locator l.locator) ≡ votes_from (block_in l.rec) (as_locator l.locator)
    l.cursor.index))

abbrev pub decreases-loop-cursor : goal.decreases-loop-cursor
decreases-loop-cursor l = length (block_in l.rec).statements - l.cursor.index
