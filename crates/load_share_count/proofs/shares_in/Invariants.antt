use mathlib.Core.Path.{◌≡◌}
use Prim.Native.Nat.{◌-◌, ◌≤◌}
use lib.ListN.{length}
use Rattle.record_spec.specs.Record.{block_in}
use Rattle.record_cursor.specs.Cursor.{cursor_at}
use Rattle.load_share_count.specs.Through.{shares_below}
use Rattle.load_share_count.proofs.shares_in.Given as goal

abbrev pub invariant-loop-cursor : goal.invariant-loop-cursor
invariant-loop-cursor l = (l.cursor ≡ cursor_at l.rec l.cursor.index) × (l.cursor.index ≤ length (block_in l.rec).statements) ×
    (l.n ≡ length (shares_below (block_in l.rec) l.cursor.index)) × (l.n ≤ l.cursor.index)

abbrev pub decreases-loop-cursor : goal.decreases-loop-cursor
decreases-loop-cursor l = l.count - l.cursor.index
