-- Feeding many records with one call: `feed` of each after the other. Assumes nothing: these are definitions.
use Rattle.std.specs.Prelude.{ℕ, ◌+◌, ◌*◌, ◌^◌, List, [], ◌∷◌, ◌++◌, ltb, length, take, drop}
use Rattle.base.specs.Lists.{pick}
use Rattle.base.specs.Le.{Bytes}
use Rattle.base.specs.Checks.{Check, ◌⇒◌, refusal, passes, Answer, refused, answered}
use Rattle.committee.specs.Committee.{Committee}
use Rattle.feed_spec.specs.Feed.{Lent, lent_of, Fed, lent_checks, feed}
use Rattle.feed_frames.specs.Frames.{records_in}

-- ---- feeding them

-- the word that tells a record's outcome: the number of its events, or 2^63 and the number of its refusal
unfoldable pub outcome_of : Answer ℕ → ℕ
outcome_of (answered n) = n
outcome_of (refused n) = 2 ^ 63 + n

-- the words of a record's events: three for each
unfoldable pub words_told : Answer ℕ → ℕ
words_told (answered n) = 3 * n
words_told (refused n) = 0

-- what feeding records leaves
pub record FedAll : Type 0 where
  pub outcomes : List ℕ
  pub store : Bytes
  pub table : List ℕ
  pub events : List ℕ

-- each record is fed to what the one before it left, and is lent the rest of the events slice
unfoldable pub feed_all : Committee → Lent → List Bytes → FedAll
feed_all c m [] = record { outcomes = []; store = m.store; table = m.table; events = m.events }
feed_all c m (r ∷ rs) =
    let f : Fed = feed c m r in
    let n : ℕ = words_told f.answer in
    let rest : FedAll = feed_all c (lent_of f.store f.table m.work (drop n f.events)) rs in
    record {
      outcomes = outcome_of f.answer ∷ rest.outcomes;
      store = rest.store;
      table = rest.table;
      events = take n f.events ++ rest.events;
    }

-- ---- the call

-- what a call answers, and what it leaves of the slices that it was lent
pub record RecordsCall : Type 0 where
  pub answer : Answer ℕ
  pub store : Bytes
  pub table : List ℕ
  pub events : List ℕ
  pub outcomes : List ℕ

-- 5, 10, 11, 12 as one feed has them; then 64, fewer words for outcomes than there are records
unfoldable pub records_checks : Committee → Lent → List ℕ → List Bytes → List Check
records_checks c m o rs = lent_checks c m ++ ((ltb (length o) (length rs) ⇒ 64) ∷ [])

-- a refusal writes nothing but the work slice
unfoldable pub refused_call : Lent → List ℕ → ℕ → RecordsCall
refused_call m o n = record { answer = refused n; store = m.store; table = m.table; events = m.events; outcomes = o }

-- the number of records; words past the last outcome keep their content
unfoldable pub fed_call : List ℕ → FedAll → RecordsCall
fed_call o z =
    record {
      answer = answered (length z.outcomes);
      store = z.store;
      table = z.table;
      events = z.events;
      outcomes = z.outcomes ++ drop (length z.outcomes) o;
    }

unfoldable pub feed_records : Committee → Lent → List ℕ → Bytes → RecordsCall
feed_records c m o bytes =
    let rs : List Bytes = records_in bytes in
    pick (passes (records_checks c m o rs)) (fed_call o (feed_all c m rs)) (refused_call m o (refusal (records_checks c m o rs)))
