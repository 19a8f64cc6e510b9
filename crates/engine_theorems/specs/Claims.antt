-- What holds of an engine after any list of feeds beside the third statement. Assumes nothing: these are definitions.
use Rattle.std.specs.Prelude.{◌≤◌, ◌≡◌, Bool, false, map}
use Rattle.std.proofs.Math.Option.{Option}
use Rattle.base.specs.Le.{Bytes}
use Rattle.base.specs.Checks.{refused}
use Rattle.committee.specs.Committee.{Committee, broken}
use Rattle.record_spec.specs.Reference.{TransactionLocator}
use Rattle.store_spec.specs.Store.{records_of}
use Rattle.store_spec.specs.Shares.{is_stored_share}
use Rattle.feed_spec.specs.Pending.{pending}
use Rattle.final_spec.specs.Finality.{blocks_of}
use Rattle.final_readings_spec.specs.Readings.{Reading}
use Rattle.list_readings_spec.specs.Lists.{next_listed, listed_stretches}
use Rattle.mission_theorems.specs.Feeds.{stored_blocks, stored_records}
use Rattle.mission_theorems.specs.ThirdStatement.{Start, engine_of, accepted_of, SameRecords}
use Rattle.engine_theorems.specs.Events.{EventsMean}

-- 01: "Stored means accepted in that list": what the store holds is what was accepted, the last first
pub record StoresAccepted (c : Committee) (t : Start) : Type 0 where
  pub blocks : blocks_of (engine_of c t).store ≡ stored_blocks (accepted_of c t)
  pub records : map (λ r. r.bytes) (records_of (engine_of c t).store) ≡ stored_records (accepted_of c t)

-- 01: "42 not pending": so is a locator that is no stored share. A table without a word is refused before that (11).
unfoldable pub OthersNotPending : Type 0
OthersNotPending = (c : Committee) → broken c ≡ false → (t : Start) → 1 ≤ t.words → (l : TransactionLocator)
    → is_stored_share (stored_blocks (accepted_of c t)) l ≡ false → pending c (engine_of c t).store (engine_of c t).table l ≡ refused 42

-- 02, Twelve: "order of arrival changes neither's lists": each list in each reading, asked one by one and in bulk, answers and writes the same
pub record SameAnswers (ordinary : Bool) (reading : Reading) (c : Committee) (s r : Bytes) : Type 0 where
  pub next : (after : Option TransactionLocator) → next_listed ordinary reading c s after ≡ next_listed ordinary reading c r after
  pub bulk : (out : Bytes) (after : Option TransactionLocator) → listed_stretches ordinary reading c s out after
      ≡ listed_stretches ordinary reading c r out after

-- after any two lists of feeds that leave the same records stored
unfoldable pub OrderUnseen : Type 0
OrderUnseen = (ordinary : Bool) (reading : Reading) (c : Committee) → broken c ≡ false → (t u : Start) → SameRecords c t u
    → SameAnswers ordinary reading c (engine_of c t).store (engine_of c u).store

pub record Claims : Type 0 where
  pub stored : (c : Committee) (t : Start) → StoresAccepted c t
  pub others : OthersNotPending
  pub order : OrderUnseen
  -- each event is processed, late or unknown by what is stored with its record
  pub events : (c : Committee) (t : Start) → EventsMean (accepted_of c t)
