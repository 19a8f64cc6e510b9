-- The slip that a station was handed is accepted still. Assumes nothing: these are definitions.
use Rattle.std.specs.Prelude.{ℕ, ◌≡◌, true, List}
use Rattle.base.specs.Le.{Bytes}
use Rattle.base.specs.Checks.{answered}
use Rattle.committee.specs.Committee.{Committee}
use Rattle.store_spec.specs.Store.{records_of, store_in_order}
use Rattle.slip_spec.specs.Supplied.{supplied_bytes}
use Rattle.slip_spec.specs.Reading.{read_answer}
use Rattle.mission_theorems.specs.Feeds.{Feed, Engine, run}

-- a slip of either reading that is accepted with the records of a store, so one that was written from it, is accepted with those of the store after every
-- further list of feeds
pub record SlipsStay : Type 0 where
  pub accepted : (c : Committee) (g : Engine) → store_in_order c g.store ≡ true → (fs : List Feed) (slip : Bytes) (n : ℕ)
      → read_answer c slip (supplied_bytes (records_of g.store)) ≡ answered n
      → read_answer c slip (supplied_bytes (records_of (run c g fs).store)) ≡ answered n
