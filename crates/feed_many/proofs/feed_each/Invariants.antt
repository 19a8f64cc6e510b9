use Rattle.feed_spec.specs.Feed.{lent_of}
use Rattle.feed_frames.specs.Frames.{records_in}
use Rattle.feed_many.specs.Records.{feed_all}
use Rattle.feed_many.specs.Step.{Ready}
use Rattle.feed_many.proofs.Walk.{Walked}
use mathlib.Core.Path.{◌≡◌}
use Prim.Native.Nat.{◌-◌}
use lib.ListN.{length}
use Rattle.feed_many.proofs.feed_each.Given as goal

abbrev pub invariant-loop-at : goal.invariant-loop-at
invariant-loop-at l =
    ((length l.store ≡ length l.initial.store) × ((length l.table ≡ length l.initial.table) ×
    ((length l.work ≡ length l.initial.work) × ((length l.events ≡ length l.initial.events) × (length l.outcomes ≡ length l.initial.outcomes)))))
    × (Ready l.stakes l.store l.table l.work
    × Walked l.stakes l.initial.work (feed_all l.stakes (lent_of l.initial.store l.initial.table l.initial.work l.initial.events) (records_in l.records))
    l.initial.outcomes l.records l.store l.table l.events l.outcomes l.at l.used l.k)

abbrev pub decreases-loop-at : goal.decreases-loop-at
decreases-loop-at l =
    length l.records - l.at
