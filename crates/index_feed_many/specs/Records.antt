-- Feeding many records with one call, with the index: `feed_indexed` of each after the other. Assumes nothing: these are definitions.
use Rattle.std.specs.Prelude.{ℕ, List, [], ◌∷◌, ◌++◌, ltb, length, take, drop}
use Rattle.base.specs.Lists.{pick}
use Rattle.base.specs.Le.{Bytes}
use Rattle.base.specs.Checks.{Check, ◌⇒◌, refusal, passes, Answer, refused, answered}
use Rattle.committee.specs.Committee.{Committee}
use Rattle.feed_spec.specs.Feed.{Lent, lent_of}
use Rattle.feed_frames.specs.Frames.{records_in}
use Rattle.feed_many.specs.Records.{outcome_of, words_told}
use Rattle.index_feed_spec.specs.IndexedFeed.{IndexedFed, indexed_lent_checks, feed_indexed}

-- what feeding records leaves
pub record FedAllIndexed : Type 0 where
  pub outcomes : List ℕ
  pub store : Bytes
  pub table : List ℕ
  pub index : List ℕ
  pub events : List ℕ

-- each record is fed to what the one before it left, and is lent the rest of the events slice; 55 is an outcome
unfoldable pub feed_all_indexed : Committee → Lent → List ℕ → List Bytes → FedAllIndexed
feed_all_indexed c m ix [] = record { outcomes = []; store = m.store; table = m.table; index = ix; events = m.events }
feed_all_indexed c m ix (r ∷ rs) =
    let f : IndexedFed = feed_indexed c m ix r in
    let n : ℕ = words_told f.fed.answer in
    let rest : FedAllIndexed = feed_all_indexed c (lent_of f.fed.store f.fed.table m.work (drop n f.fed.events)) f.index rs in
    record {
      outcomes = outcome_of f.fed.answer ∷ rest.outcomes;
      store = rest.store;
      table = rest.table;
      index = rest.index;
      events = take n f.fed.events ++ rest.events;
    }

-- ---- the call

-- what a call answers, and what it leaves of the slices that it was lent
pub record IndexedRecordsCall : Type 0 where
  pub answer : Answer ℕ
  pub store : Bytes
  pub table : List ℕ
  pub index : List ℕ
  pub events : List ℕ
  pub outcomes : List ℕ

-- 5, 10, 11, 54, 12 as one feed has them; then 64, fewer words for outcomes than there are records
unfoldable pub indexed_records_checks : Committee → Lent → List ℕ → List ℕ → List Bytes → List Check
indexed_records_checks c m ix o rs =
    indexed_lent_checks c m.store m.table ix
    ++ ((ltb (length m.work) (length m.table) ⇒ 12) ∷ (ltb (length o) (length rs) ⇒ 64) ∷ [])

-- a refusal writes nothing but the work slice
unfoldable pub refused_indexed_call : Lent → List ℕ → List ℕ → ℕ → IndexedRecordsCall
refused_indexed_call m ix o n = record { answer = refused n; store = m.store; table = m.table; index = ix; events = m.events; outcomes = o }

-- the number of records; words past the last outcome keep their content
unfoldable pub fed_indexed_call : List ℕ → FedAllIndexed → IndexedRecordsCall
fed_indexed_call o z =
    record {
      answer = answered (length z.outcomes);
      store = z.store;
      table = z.table;
      index = z.index;
      events = z.events;
      outcomes = z.outcomes ++ drop (length z.outcomes) o;
    }

unfoldable pub feed_records_indexed : Committee → Lent → List ℕ → List ℕ → Bytes → IndexedRecordsCall
feed_records_indexed c m ix o bytes =
    let rs : List Bytes = records_in bytes in
    pick (passes (indexed_records_checks c m ix o rs)) (fed_indexed_call o (feed_all_indexed c m ix rs))
    (refused_indexed_call m ix o (refusal (indexed_records_checks c m ix o rs)))
