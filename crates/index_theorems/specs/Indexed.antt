-- An engine with the index, fed a list of records from fresh. Assumes nothing: these are definitions. Feeds are listed THE LAST FIRST, as in `promises`.
use Rattle.std.specs.Prelude.{ℕ, Bool, false, List, [], ◌∷◌, ◌++◌, eqb}
use Rattle.base.specs.Lists.{pick}
use Rattle.base.specs.Checks.{Answer, refused, answered}
use Rattle.committee.specs.Committee.{Committee}
use Rattle.store_spec.specs.Layout.{read_record}
use Rattle.index_spec.specs.Index.{fresh_index}
use Rattle.index_feed_spec.specs.IndexedFeed.{IndexedFed, feed_indexed}
use Rattle.mission_theorems.specs.Feeds.{Feed, Engine, fresh, left, Accepted, accepted_in}
use Rattle.mission_theorems.specs.ThirdStatement.{Start}

-- what goes from one feed to the next
pub record IndexedEngine : Type 0 where
  pub engine : Engine
  pub index : List ℕ

-- 02: "the index .. goes from feed to feed with the store"
unfoldable pub outcome_indexed : Committee → IndexedEngine → Feed → IndexedFed
outcome_indexed c g f =
    feed_indexed c (record { store = g.engine.store; table = g.engine.table; work = f.work; events = f.events }) g.index f.bytes

unfoldable pub left_indexed : IndexedFed → IndexedEngine
left_indexed o = record { engine = left o.fed; index = o.index }

unfoldable pub run_indexed : Committee → IndexedEngine → List Feed → IndexedEngine
run_indexed c g [] = g
run_indexed c g (f ∷ earlier) = left_indexed (outcome_indexed c (run_indexed c g earlier) f)

-- 01: "Stored means accepted in that list"
unfoldable pub taken_indexed : Committee → IndexedEngine → List Feed → List Accepted
taken_indexed c g [] = []
taken_indexed c g (f ∷ earlier) =
    let o : IndexedFed = outcome_indexed c (run_indexed c g earlier) f in
    accepted_in (read_record f.bytes) o.fed.answer o.fed.events ++ taken_indexed c g earlier

-- 02: "the index starts as a fresh store's", with any words past it
pub record IndexedStart : Type 0 where
  pub start : Start
  pub past : List ℕ

unfoldable pub fresh_indexed : IndexedStart → IndexedEngine
fresh_indexed t = record { engine = fresh t.start.past t.start.words; index = fresh_index ++ t.past }

-- the engine afterwards, and what it accepted on the way
unfoldable pub engine_indexed : Committee → IndexedStart → IndexedEngine
engine_indexed c t = run_indexed c (fresh_indexed t) t.start.feeds

unfoldable pub accepted_indexed_of : Committee → IndexedStart → List Accepted
accepted_indexed_of c t = taken_indexed c (fresh_indexed t) t.start.feeds

-- ---- the same list without the feeds that 55 refused

unfoldable pub is55 : Answer ℕ → Bool
is55 (refused n) = eqb n 55
is55 (answered n) = false

unfoldable pub but55 : Committee → IndexedEngine → List Feed → List Feed
but55 c g [] = []
but55 c g (f ∷ earlier) = pick (is55 (outcome_indexed c (run_indexed c g earlier) f).fed.answer) (but55 c g earlier) (f ∷ but55 c g earlier)

-- from a fresh engine without the index
unfoldable pub without55 : Committee → IndexedStart → Start
without55 c t =
    record { past = t.start.past; allowed = t.start.allowed; words = t.start.words; feeds = but55 c (fresh_indexed t) t.start.feeds }
