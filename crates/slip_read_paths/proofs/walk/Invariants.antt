use mathlib.Core.Path.{◌≡◌}
use Prim.Native.Nat.{◌-◌, ◌<◌}
use lib.ListN.{length, drop}
use Rattle.slip_spec.specs.Supplied.{supplied_blocks}
use Rattle.slip_spec.specs.Paths.{leads}
use Rattle.slip_read_records.specs.Places.{block_at_place}
use Rattle.slip_read_paths.proofs.walk.Given as goal

abbrev pub invariant-loop-i : goal.invariant-loop-i
invariant-loop-i l = (l.place < length l.order) ×
    (leads (supplied_blocks l.records) l.path (block_at_place l.records l.order l.start)
    ≡ leads (supplied_blocks l.records) (drop l.i l.path) (block_at_place l.records l.order l.place))

abbrev pub decreases-loop-i : goal.decreases-loop-i
decreases-loop-i l = length l.path - l.i
