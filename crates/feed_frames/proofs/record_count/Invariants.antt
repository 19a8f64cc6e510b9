use Rattle.feed_frames.specs.Frames.{records_in}
use mathlib.Core.Path.{◌≡◌}
use Prim.Native.Nat.{◌+◌, ◌-◌, ◌≤◌}
use lib.ListN.{length, drop}
use Rattle.feed_frames.proofs.record_count.Given as goal

abbrev pub invariant-loop-at : goal.invariant-loop-at
invariant-loop-at l =
    (l.at ≤ length l.records) × ((l.n ≤ l.at) × (l.n + length (records_in (drop l.at l.records)) ≡ length (records_in l.records)))

abbrev pub decreases-loop-at : goal.decreases-loop-at
decreases-loop-at l = length l.records - l.at
