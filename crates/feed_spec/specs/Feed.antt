-- Feeding a record: the first refusal or the number of events, and every lent slice afterwards. Assumes nothing: these are definitions.
use Rattle.std.specs.Prelude.{ℕ, true, List, [], ◌∷◌, ◌++◌, ltb, length, drop}
use Rattle.std.proofs.Math.Option.{Option, none, some}
use Rattle.base.specs.Lists.{pick}
use Rattle.base.specs.Le.{Bytes}
use Rattle.base.specs.Checks.{Check, ◌⇒◌, refusal, passes, Answer, refused, answered}
use Rattle.committee.specs.Committee.{Committee}
use Rattle.record_spec.specs.Block.{event_room}
use Rattle.store_spec.specs.Layout.{Record, read_record, entries}
use Rattle.store_spec.specs.Accept.{block_checks}
use Rattle.store_spec.specs.Store.{records_of, store_full, store_holding}
use Rattle.pending_spec.specs.Table.{table_of, items_of, room}
use Rattle.feed_spec.specs.Pending.{pending_checks}
use Rattle.feed_spec.specs.ProcessBlock.{words_of, Processing, process_block}

-- what a feed is lent, and the record; the work slice's content is free, and no answer reads it
pub record Lent : Type 0 where
  pub store : Bytes
  pub table : List ℕ
  pub work : List ℕ
  pub events : List ℕ

abbrev pub lent_of : Bytes → List ℕ → List ℕ → List ℕ → Lent
lent_of s t w v = record { store = s; table = t; work = w; events = v }

-- what a feed answers, and what it leaves of the slices that it was lent
pub record Fed : Type 0 where
  pub answer : Answer ℕ
  pub store : Bytes
  pub table : List ℕ
  pub events : List ℕ

-- the pending items and events once the record is stored
unfoldable pub processed : Committee → Lent → Record → Processing
processed c m r = process_block c (entries (r ∷ records_of m.store)) r.block (items_of m.table)

-- 01: "Feeding checks 5, 10, 11, 12, .."
unfoldable pub lent_checks : Committee → Lent → List Check
lent_checks c m = pending_checks c m.store m.table ++ ((ltb (length m.work) (length m.table) ⇒ 12) ∷ [])

-- 01: "20 to 30 ascending", of what was read of the record
unfoldable pub rule_checks : Committee → Bytes → Option Record → List Check
rule_checks c s none = (true ⇒ 20) ∷ []
rule_checks c s (some r) = block_checks c (records_of s) r.block

-- 01: "20 to 30 ascending, 15, 13", where n words are lent for events
unfoldable pub accept_checks : Committee → Bytes → ℕ → Option Record → List Check
accept_checks c s n none = rule_checks c s none
accept_checks c s n (some r) = rule_checks c s (some r) ++ ((ltb n (event_room r.block) ⇒ 15) ∷ (store_full s r ⇒ 13) ∷ [])

-- 01: ".. 20 to 30 ascending, 15, 13, 14"
unfoldable pub record_checks : Committee → Lent → Option Record → List Check
record_checks c m none = accept_checks c m.store (length m.events) none
record_checks c m (some r) =
    accept_checks c m.store (length m.events) (some r) ++ ((ltb (room m.table) (processed c m r).most ⇒ 14) ∷ [])

unfoldable pub feed_checks : Committee → Lent → Option Record → List Check
feed_checks c m r = lent_checks c m ++ record_checks c m r

-- 01: "A refusal writes nothing but the work slice"
unfoldable pub refused_feed : Lent → ℕ → Fed
refused_feed m n = record { answer = refused n; store = m.store; table = m.table; events = m.events }

-- 01: "Feeding answers the number of events; words past them keep their content"
unfoldable pub accepted_feed : Committee → Lent → Record → Fed
accepted_feed c m r =
    let z : Processing = processed c m r in
    let words : List ℕ = words_of z.events in
    record {
      answer = answered (length z.events);
      store = store_holding (r ∷ records_of m.store) m.store;
      table = table_of (length m.table) z.items;
      events = words ++ drop (length words) m.events;
    }

unfoldable pub feed_record : Committee → Lent → Option Record → Fed
feed_record c m none = refused_feed m (refusal (feed_checks c m none))
feed_record c m (some r) =
    pick (passes (feed_checks c m (some r))) (accepted_feed c m r) (refused_feed m (refusal (feed_checks c m (some r))))

unfoldable pub feed : Committee → Lent → Bytes → Fed
feed c m bytes = feed_record c m (read_record bytes)
