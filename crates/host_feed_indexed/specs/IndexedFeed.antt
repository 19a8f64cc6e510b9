-- Feeding a record that a host sends, with an index of words. Assumes nothing: these are definitions.
use Rattle.std.specs.Prelude.{ℕ, true, List, [], ◌∷◌, ◌++◌, eqb, length}
use Rattle.base.specs.Lists.{pick}
use Rattle.base.specs.Le.{Bytes}
use Rattle.base.specs.Checks.{◌⇒◌, refusal, Answer, refused}
use Rattle.committee.specs.Committee.{Committee}
use Rattle.words.specs.Words.{words_of, bytes_of}
use Rattle.feed_spec.specs.Feed.{lent_of}
use Rattle.index_feed_spec.specs.IndexedFeed.{IndexedFed, feed_indexed}
use Rattle.index_feed_refusals.specs.Refusals.{early_indexed_checks}
use Rattle.host_calls.specs.Calls.{committee_of}
use Rattle.host_locators.specs.Locators.{refusal_before}

-- what such a feed answers, and what it was lent afterwards
pub record IndexedCall : Type 0 where
  pub answer : Answer ℕ
  pub store : Bytes
  pub table : Bytes
  pub index : List ℕ
  pub events : Bytes

-- 01: "A refusal writes nothing"
unfoldable pub refused_call : Bytes → Bytes → List ℕ → Bytes → ℕ → IndexedCall
refused_call s t ix v n = record { answer = refused n; store = s; table = t; index = ix; events = v }

unfoldable pub fed_call : IndexedFed → IndexedCall
fed_call f = record { answer = f.fed.answer; store = f.fed.store; table = bytes_of f.fed.table; index = f.index; events = bytes_of f.fed.events }

-- the engine's feed of a table of words: the call has a work slice of its own, as long as the table, so that 12 never applies
unfoldable pub fed_with : Committee → Bytes → List ℕ → List ℕ → List ℕ → Bytes → IndexedFed
fed_with c s t ix v rec = feed_indexed c (lent_of s t t v) ix rec

-- 01: "a table, events or positions (1,024) not of `listing`'s size 11, 15 or 40 in place": a table is 6,145 words, events are 8,192
unfoldable pub feed_indexed_of : Committee → Bytes → Bytes → List ℕ → Bytes → Bytes → IndexedCall
feed_indexed_of c s t ix v rec =
    pick (eqb (length t) 49160)
    (pick (eqb (length v) 65536)
    (fed_call (fed_with c s (words_of t) ix (words_of v) rec))
    (refused_call s t ix v (refusal (early_indexed_checks c s (words_of t) ix rec ++ ((true ⇒ 15) ∷ [])))))
    (refused_call s t ix v (refusal_before 11 c s))

unfoldable pub feed_indexed_call : Bytes → Bytes → Bytes → List ℕ → Bytes → Bytes → IndexedCall
feed_indexed_call stakes s t ix v rec = feed_indexed_of (committee_of stakes) s t ix v rec
