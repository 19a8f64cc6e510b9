use mathlib.Core.Path.{◌≡◌}
use Prim.Native.Nat.{◌-◌}
use lib.ListN.{length}
use Rattle.feed_spec.specs.Feed.{lent_of}
use Rattle.feed_frames.specs.Frames.{records_in}
use Rattle.index_feed_many.specs.Records.{feed_all_indexed}
use Rattle.index_feed_many.specs.Step.{ReadyIndexed}
use Rattle.index_feed_many.proofs.Walk.{Walked}
use Rattle.index_feed_many.proofs.feed_each.Given as goal

abbrev pub invariant-loop-at : goal.invariant-loop-at
invariant-loop-at l =
    ((length l.store ≡ length l.initial.store) × ((length l.order ≡ length l.initial.order) ×
    ((length l.starts ≡ length l.initial.starts) × ((length l.table ≡ length l.initial.table) ×
    ((length l.index ≡ length l.initial.index) × ((length l.work ≡ length l.initial.work)
    × ((length l.events ≡ length l.initial.events) × (length l.outcomes ≡ length l.initial.outcomes))))))))
    × (ReadyIndexed l.stakes l.store l.table l.index l.work l.order l.starts
    × Walked l.stakes l.initial.work (feed_all_indexed l.stakes (lent_of l.initial.store l.initial.table l.initial.work l.initial.events) l.initial.index
    (records_in l.records)) l.initial.outcomes l.records l.store l.table l.index l.events
    l.outcomes l.at l.used l.k)

abbrev pub decreases-loop-at : goal.decreases-loop-at
decreases-loop-at l =
    length l.records - l.at
