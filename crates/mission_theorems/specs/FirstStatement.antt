-- The mission's first statement, over the definition of feeding that the contract of `feed` cites. Assumes nothing: these are definitions.
use Rattle.std.specs.Prelude.{ℕ, ◌*◌, ◌≤◌, ◌≡◌, true, false, List, ◌∷◌, ◌++◌, length, drop}
use Rattle.std.proofs.Math.Option.{some}
use Rattle.base.specs.Le.{Bytes}
use Rattle.base.specs.Checks.{Check, passes, refused, answered}
use Rattle.committee.specs.Committee.{Committee, broken}
use Rattle.record_spec.specs.Block.{event_room}
use Rattle.store_spec.specs.Layout.{Record, read_record, entries, used_by}
use Rattle.store_spec.specs.Accept.{block_checks}
use Rattle.store_spec.specs.Store.{records_of, store_in_order, store_full}
use Rattle.pending_spec.specs.Table.{items_of, table_in_order, room}
use Rattle.feed_spec.specs.ProcessBlock.{words_of}
use Rattle.feed_spec.specs.Feed.{Lent, Fed, processed, feed_checks, feed}

-- "with enough lent memory": a committee, a store and a table that are in order (5, 10, 11), room for the work (12), for the events (15), in
-- the store (13) and for the items (14)
pub record EnoughMemory (c : Committee) (m : Lent) (r : Record) : Type 0 where
  pub committee : broken c ≡ false
  pub store : store_in_order c m.store ≡ true
  pub table : table_in_order c (entries (records_of m.store)) m.table ≡ true
  pub work : length m.table ≤ length m.work
  pub events : event_room r.block ≤ length m.events
  pub bytes : store_full m.store r ≡ false
  pub items : (processed c m r).most ≤ room m.table

-- "Each block record that keeps document 01's rules": it is well formed (20), and none of 21 to 30 applies to its block
pub record KeepsRules (c : Committee) (m : Lent) (bytes : Bytes) : Type 0 where
  pub rec : Record
  pub formed : read_record bytes ≡ some rec
  pub rules : passes (block_checks c (records_of m.store) rec.block) ≡ true
  pub memory : EnoughMemory c m rec

-- "is stored and counted": the store holds the record after all others, and is in order; the table holds the items that the record's shares
-- and votes leave, and is in order; the events stand at the front. Bytes and words past them stay.
pub record Counted (c : Committee) (m : Lent) (r : Record) (f : Fed) : Type 0 where
  pub answer : f.answer ≡ answered (length (processed c m r).events)
  pub stored : records_of f.store ≡ r ∷ records_of m.store
  pub store_order : store_in_order c f.store ≡ true
  pub store_past : drop (used_by (r ∷ records_of m.store)) f.store ≡ drop (used_by (r ∷ records_of m.store)) m.store
  pub items : items_of f.table ≡ (processed c m r).items
  pub table_order : table_in_order c (entries (r ∷ records_of m.store)) f.table ≡ true
  pub events : f.events ≡ words_of (processed c m r).events ++ drop (3 * length (processed c m r).events) m.events

-- "the first refusal number that applies"
pub data FirstApplies : ℕ → List Check → Type 0 where
  here : {k : Check} {ks : List Check} → k.applies ≡ true → FirstApplies k.number (k ∷ ks)
  later : {n : ℕ} {k : Check} {ks : List Check} → k.applies ≡ false → FirstApplies n ks → FirstApplies n (k ∷ ks)

-- "gets the first refusal number that applies, and store, pending table and event list keep each byte"
pub record Refused (c : Committee) (m : Lent) (bytes : Bytes) (f : Fed) : Type 0 where
  pub number : ℕ
  pub answer : f.answer ≡ refused number
  pub first : FirstApplies number (feed_checks c m (read_record bytes))
  pub store : f.store ≡ m.store
  pub table : f.table ≡ m.table
  pub events : f.events ≡ m.events

pub record FirstStatement : Type 0 where
  -- "Each block record that keeps document 01's rules, with enough lent memory, is stored and counted."
  pub kept : (c : Committee) (m : Lent) (bytes : Bytes) (k : KeepsRules c m bytes) → Counted c m k.rec (feed c m bytes)
  -- "Every other input gets the first refusal number that applies, and store, pending table and event list keep each byte."
  pub others : (c : Committee) (m : Lent) (bytes : Bytes) → (KeepsRules c m bytes → ⊥) → Refused c m bytes (feed c m bytes)
