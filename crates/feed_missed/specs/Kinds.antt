-- Machinery for the contracts of inner functions: the entries with the record being fed, and events of given kinds. Assumes nothing: these are definitions.
use Rattle.std.specs.Prelude.{ℕ, ◌-◌, List, ◌∷◌, map}
use Rattle.base.specs.Lists.{count_from}
use Rattle.base.specs.Le.{Bytes}
use Rattle.store_spec.specs.Layout.{Entry, entries}
use Rattle.store_spec.specs.Store.{records_of, record_in}
use Rattle.feed_spec.specs.ProcessBlock.{Event}

-- the entries once the record is stored: 01, "the block being fed counts as stored"
abbrev pub with_new : Bytes → Bytes → List Entry
with_new s rec = entries (record_in rec ∷ records_of s)

-- an event for each offset in start..end, of the kind that f says
unfoldable pub events_by : (ℕ → ℕ) → ℕ → ℕ → ℕ → List Event
events_by f i start end = map (λ o. record { kind = f o; statement = i; offset = o }) (count_from start (end - start))
