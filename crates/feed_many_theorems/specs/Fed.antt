-- Engines that were fed many records with one call are those of the mission's third statement. Assumes nothing: these are definitions.
use Rattle.std.specs.Prelude.{ℕ, ◌≡◌, false, List, [], ◌∷◌, ◌++◌, map, reverse, drop}
use Rattle.base.specs.Le.{Bytes}
use Rattle.committee.specs.Committee.{Committee, broken}
use Rattle.feed_spec.specs.Feed.{Lent, lent_of, Fed, feed}
use Rattle.feed_many.specs.Records.{words_told, feed_all}
use Rattle.mission_theorems.specs.Feeds.{Feed, Engine}
use Rattle.mission_theorems.specs.ThirdStatement.{Start, engine_of, accepted_of, Holds}

-- the records of a call as feeds, the last first, each with what it is lent, before those that were made already
unfoldable pub feeds_of : Committee → Lent → List Bytes → List Feed → List Feed
feeds_of c m [] earlier = earlier
feeds_of c m (r ∷ rs) earlier =
    let f : Fed = feed c m r in
    feeds_of c (lent_of f.store f.table m.work (drop (words_told f.answer) f.events)) rs
    (record { bytes = r; work = m.work; events = m.events } ∷ earlier)

-- an engine, with the work slice and the events that a call is lent
unfoldable pub lent_by : Engine → List ℕ → List ℕ → Lent
lent_by g w v = lent_of g.store g.table w v

-- a fresh engine that was fed, and then fed records with one call
unfoldable pub fed_on : Committee → Start → List ℕ → List ℕ → List Bytes → Start
fed_on c t w v rs =
    record { past = t.past; allowed = t.allowed; words = t.words; feeds = feeds_of c (lent_by (engine_of c t) w v) rs t.feeds }

-- what the call leaves
unfoldable pub engine_fed : Committee → Start → List ℕ → List ℕ → List Bytes → Engine
engine_fed c t w v rs =
    record {
      store = (feed_all c (lent_by (engine_of c t) w v) rs).store;
      table = (feed_all c (lent_by (engine_of c t) w v) rs).table;
    }

pub record RecordsStatement : Type 0 where
  -- it is the engine after these feeds, of the same records in the same order
  pub same : (c : Committee) (t : Start) (w v : List ℕ) (rs : List Bytes) → engine_fed c t w v rs ≡ engine_of c (fed_on c t w v rs)
  pub records : (c : Committee) (t : Start) (w v : List ℕ) (rs : List Bytes)
      → map (λ f. f.bytes) (fed_on c t w v rs).feeds ≡ reverse rs ++ map (λ f. f.bytes) t.feeds
  -- so that the third statement holds of it
  pub holds : (c : Committee) → broken c ≡ false → (t : Start) (w v : List ℕ) (rs : List Bytes)
      → Holds c (engine_fed c t w v rs) (accepted_of c (fed_on c t w v rs))
