-- What a station may load it may load still. Assumes nothing: these are definitions.
use Rattle.std.specs.Prelude.{◌≡◌, true, false, List}
use Rattle.committee.specs.Committee.{Committee, broken}
use Rattle.record_spec.specs.Reference.{TransactionLocator}
use Rattle.store_spec.specs.Store.{store_in_order}
use Rattle.final_spec.specs.Finality.{blocks_of}
use Rattle.final_readings_spec.specs.Readings.{Reading}
use Rattle.load_spec.specs.Loadable.{is_loadable_in}
use Rattle.mission_theorems.specs.Feeds.{Feed, Engine, run}

-- a share that is loadable, with the changes that it needs, is loadable after every further list of feeds, in both readings
pub record LoadablesStay : Type 0 where
  pub loadable : (reading : Reading) (c : Committee) → broken c ≡ false → (g : Engine) → store_in_order c g.store ≡ true → (fs : List Feed)
      (l : TransactionLocator)
      → is_loadable_in reading c (blocks_of g.store) l ≡ true → is_loadable_in reading c (blocks_of (run c g fs).store) l ≡ true
