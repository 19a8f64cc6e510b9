-- Machinery for the contracts of inner functions: the events of a vote, written one after the other. Assumes nothing: these are definitions.
use Rattle.std.specs.Prelude.{ℕ, ◌+◌, ◌-◌, ◌*◌, ◌≤◌, ◌<◌, ◌≡◌, Bool, length}
use mathlib.Core.List.{List, [], map, flatten}
use Rattle.std.proofs.Math.Option
use Rattle.std.proofs.Math.Option.{Option}
use Rattle.std.proofs.lemmas.List.Edits.{sets}
use Rattle.base.specs.Lists.{pick, count_from}
use Rattle.committee.specs.Committee.{Stake, quorum_of}
use Rattle.record_spec.specs.Reference.{BlockReference}
use Rattle.store_spec.specs.Layout.{Entry}
use Rattle.pending_spec.specs.Items.{Item, item_at}
use Rattle.feed_spec.specs.ProcessBlock.{Event, words_of, event_at}

-- `event_of` by the total stake
unfoldable pub told_at : Stake → List Entry → BlockReference → ℕ → ℕ → Option Item → List Event
told_at total es r i o x = event_at es r i o (Option.map (λ y. quorum_of total y.aggregator.stake) x)

-- the events for start..end of the block at p, among items that have the vote
unfoldable pub events_between : Stake → List Entry → BlockReference → ℕ → List Item → ℕ → ℕ → ℕ → List Event
events_between total es r i xs p start end = flatten (map (λ o. told_at total es r i o (item_at xs p o)) (count_from start (end - start)))

-- the same stands at each offset in start..end
abbrev pub SameItem : List Item → ℕ → ℕ → ℕ → Type 0
SameItem xs p start end = (q : ℕ) → start ≤ q → q < end → item_at xs p q ≡ item_at xs p start

-- the events are written after the n that are there
pub record StatedAt (n : ℕ) (vs : List Event) (before : List ℕ) (r : ℕ) (after : List ℕ) : Type 0 where
  pub many : r ≡ n + length vs
  pub words : after ≡ sets before (3 * n) (words_of vs)

-- events that are told, or none where the votes are only tried
abbrev pub told : Bool → List Event → List Event
told telling vs = pick telling vs []
