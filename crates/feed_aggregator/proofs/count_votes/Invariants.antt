use mathlib.Core.Path.{◌≡◌}
use Prim.Native.Nat.{◌-◌, ◌≤◌}
use lib.ListN.{length}
use Rattle.record_spec.specs.Record.{block_in}
use Rattle.record_cursor.specs.Cursor.{cursor_at}
use Rattle.feed_missed.specs.Kinds.{with_new}
use Rattle.feed_aggregator.proofs.Counting.{Counting}
use Rattle.feed_aggregator.proofs.count_votes.Given as goal

abbrev pub invariant-loop-cursor : goal.invariant-loop-cursor
invariant-loop-cursor l =
    Counting l.stakes (with_new l.store l.rec) (block_in l.rec).reference.authority (block_in l.rec).statements l.telling l.initial.table l.initial.events
    l.cursor.index l.table l.events l.n
    × (l.cursor ≡ cursor_at l.rec l.cursor.index)
    × (l.cursor.index ≤ length (block_in l.rec).statements)

abbrev pub decreases-loop-cursor : goal.decreases-loop-cursor
decreases-loop-cursor l = length (block_in l.rec).statements - l.cursor.index
