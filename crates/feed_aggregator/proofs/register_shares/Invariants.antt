use mathlib.Core.Path.{◌≡◌}
use Prim.Native.Nat.{◌-◌, ◌≤◌}
use lib.ListN.{length}
use Rattle.record_spec.specs.Record.{block_in}
use Rattle.record_cursor.specs.Cursor.{cursor_at}
use Rattle.feed_aggregator.proofs.Runs.{Adding}
use Rattle.feed_aggregator.proofs.register_shares.Given as goal

abbrev pub invariant-loop-run : goal.invariant-loop-run
invariant-loop-run l =
    Adding l.stakes (block_in l.rec).reference.authority l.p (block_in l.rec) l.initial.table l.cursor.index l.table
    × (l.cursor ≡ cursor_at l.rec l.cursor.index)
    × (l.cursor.index ≤ length (block_in l.rec).statements)

abbrev pub decreases-loop-run : goal.decreases-loop-run
decreases-loop-run l = length (block_in l.rec).statements - l.cursor.index
