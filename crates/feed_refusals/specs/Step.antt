-- Machinery for the contracts of inner functions: what is known before a record is counted and stored. Assumes nothing: these are definitions.
use Rattle.std.specs.Prelude.{ℕ, ◌≤◌, ◌≡◌, true, false, List, [], leb, length}
use Rattle.base.specs.Le.{Bytes}
use Rattle.committee.specs.Committee.{Committee}
use Rattle.record_spec.specs.Block.{event_room}
use Rattle.record_spec.specs.Record.{block_in}
use Rattle.store_spec.specs.Store.{record_in, store_full}
use Rattle.pending_spec.specs.Table.{room}
use Rattle.feed_spec.specs.Feed.{lent_of, processed}
use Rattle.feed_aggregator.specs.Step.{Feeding}

-- no refusal applies: committee, store, table and record, and the room for events, record and items
pub record Accepting (c : Committee) (s : Bytes) (t v : List ℕ) (rec : Bytes) : Type 0 where
  pub checked : Feeding c s rec t
  pub events : event_room (block_in rec) ≤ length v
  pub store : store_full s (record_in rec) ≡ false
  pub items : leb (processed c (lent_of s t [] v) (record_in rec)).most (room t) ≡ true
