-- Engines that were fed many records with the index by one call are those of the mission's third statement. Assumes nothing: these are definitions.
use Rattle.std.specs.Prelude.{ℕ, ◌≡◌, false, List, [], ◌∷◌, ◌++◌, map, reverse, drop}
use Rattle.base.specs.Le.{Bytes}
use Rattle.committee.specs.Committee.{Committee, broken}
use Rattle.feed_spec.specs.Feed.{Lent, lent_of}
use Rattle.index_feed_spec.specs.IndexedFeed.{IndexedFed, feed_indexed}
use Rattle.index_spec.specs.Index.{index_of, used_part}
use Rattle.feed_many.specs.Records.{words_told}
use Rattle.index_feed_many.specs.Records.{FedAllIndexed, feed_all_indexed}
use Rattle.mission_theorems.specs.Feeds.{Feed}
use Rattle.mission_theorems.specs.ThirdStatement.{Start, Holds}
use Rattle.index_theorems.specs.Indexed.{IndexedEngine, IndexedStart, engine_indexed, accepted_indexed_of}

-- the records of a call as feeds, the last first, each with what it is lent, before those that were made already
unfoldable pub feeds_of : Committee → Lent → List ℕ → List Bytes → List Feed → List Feed
feeds_of c m ix [] earlier = earlier
feeds_of c m ix (r ∷ rs) earlier =
    let f : IndexedFed = feed_indexed c m ix r in
    feeds_of c (lent_of f.fed.store f.fed.table m.work (drop (words_told f.fed.answer) f.fed.events)) f.index rs
    (record { bytes = r; work = m.work; events = m.events } ∷ earlier)

-- an engine, with the work slice and the events that a call is lent
unfoldable pub lent_by : IndexedEngine → List ℕ → List ℕ → Lent
lent_by g w v = lent_of g.engine.store g.engine.table w v

-- a fresh engine with the index that was fed, and then fed records with one call
unfoldable pub fed_on : Committee → IndexedStart → List ℕ → List ℕ → List Bytes → IndexedStart
fed_on c t w v rs =
    let g : IndexedEngine = engine_indexed c t in
    let s : Start = t.start in
    record {
      start = record { past = s.past; allowed = s.allowed; words = s.words; feeds = feeds_of c (lent_by g w v) g.index rs s.feeds };
      past = t.past;
    }

-- what the call leaves
unfoldable pub engine_fed : Committee → IndexedStart → List ℕ → List ℕ → List Bytes → IndexedEngine
engine_fed c t w v rs =
    let g : IndexedEngine = engine_indexed c t in
    let z : FedAllIndexed = feed_all_indexed c (lent_by g w v) g.index rs in
    record { engine = record { store = z.store; table = z.table }; index = z.index }

pub record IndexedRecordsStatement : Type 0 where
  -- it is the engine after these feeds, of the same records in the same order
  pub same : (c : Committee) (t : IndexedStart) (w v : List ℕ) (rs : List Bytes) → engine_fed c t w v rs ≡ engine_indexed c (fed_on c t w v rs)
  pub records : (c : Committee) (t : IndexedStart) (w v : List ℕ) (rs : List Bytes)
      → map (λ f. f.bytes) (fed_on c t w v rs).start.feeds ≡ reverse rs ++ map (λ f. f.bytes) t.start.feeds
  -- so that the third statement holds of it
  pub holds : (c : Committee) → broken c ≡ false → (t : IndexedStart) (w v : List ℕ) (rs : List Bytes)
      → Holds c (engine_fed c t w v rs).engine (accepted_indexed_of c (fed_on c t w v rs))
  -- and its index is the one worked out afresh from the store
  pub afresh : (c : Committee) (t : IndexedStart) (w v : List ℕ) (rs : List Bytes)
      → used_part (engine_fed c t w v rs).index ≡ index_of (engine_fed c t w v rs).engine.store
