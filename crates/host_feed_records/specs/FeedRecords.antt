-- Feeding many records that a host sends. Assumes nothing: these are definitions.
use Rattle.std.specs.Prelude.{ℕ, List, eqb, length}
use Rattle.base.specs.Lists.{pick}
use Rattle.base.specs.Le.{Bytes}
use Rattle.base.specs.Checks.{Answer, refused}
use Rattle.committee.specs.Committee.{Committee}
use Rattle.words.specs.Words.{words_of, bytes_of}
use Rattle.feed_spec.specs.Feed.{lent_of}
use Rattle.feed_many.specs.Records.{RecordsCall, feed_records}
use Rattle.host_calls.specs.Calls.{committee_of}
use Rattle.host_locators.specs.Locators.{refusal_before}

-- what the call answers, and what it was lent afterwards
pub record HostCall : Type 0 where
  pub answer : Answer ℕ
  pub store : Bytes
  pub table : Bytes
  pub events : List ℕ
  pub outcomes : List ℕ

-- 01: "A refusal writes nothing"
unfoldable pub refused_host : Bytes → Bytes → List ℕ → List ℕ → ℕ → HostCall
refused_host s t v o n = record { answer = refused n; store = s; table = t; events = v; outcomes = o }

unfoldable pub told_host : RecordsCall → HostCall
told_host f = record { answer = f.answer; store = f.store; table = bytes_of f.table; events = f.events; outcomes = f.outcomes }

-- the engine's call with a table of words: it has a work slice of its own, as long as the table, so that 12 never applies
unfoldable pub records_with : Committee → Bytes → List ℕ → List ℕ → List ℕ → Bytes → RecordsCall
records_with c s t v o recs = feed_records c (lent_of s t t v) o recs

-- 01: "a table, events or positions (1,024) not of `listing`'s size 11, 15 or 40 in place": a table is 6,145 words; events and outcomes are
-- any number of words
unfoldable pub feed_records_of : Committee → Bytes → Bytes → List ℕ → List ℕ → Bytes → HostCall
feed_records_of c s t v o recs =
    pick (eqb (length t) 49160) (told_host (records_with c s (words_of t) v o recs)) (refused_host s t v o (refusal_before 11 c s))

unfoldable pub feed_records_call : Bytes → Bytes → Bytes → List ℕ → List ℕ → Bytes → HostCall
feed_records_call stakes s t v o recs = feed_records_of (committee_of stakes) s t v o recs
