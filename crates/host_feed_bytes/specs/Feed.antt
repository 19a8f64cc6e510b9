-- Feeding a record that a host sends. Assumes nothing: these are definitions.
use Rattle.std.specs.Prelude.{ℕ, true, List, [], ◌∷◌, ◌++◌, eqb, length}
use Rattle.base.specs.Lists.{pick}
use Rattle.base.specs.Le.{Bytes}
use Rattle.base.specs.Checks.{◌⇒◌, refusal, Answer, refused}
use Rattle.committee.specs.Committee.{Committee}
use Rattle.words.specs.Words.{words_of, bytes_of}
use Rattle.feed_spec.specs.Feed.{Fed, lent_of, feed}
use Rattle.feed_refusals.specs.Refusals.{early_checks}
use Rattle.host_calls.specs.Calls.{committee_of}
use Rattle.host_locators.specs.Locators.{refusal_before}

-- what a feed answers, and the bytes that it was lent afterwards
pub record FeedCall : Type 0 where
  pub answer : Answer ℕ
  pub store : Bytes
  pub table : Bytes
  pub events : Bytes

-- 01: "A refusal writes nothing"
unfoldable pub refused_call : Bytes → Bytes → Bytes → ℕ → FeedCall
refused_call s t v n = record { answer = refused n; store = s; table = t; events = v }

unfoldable pub fed_call : Fed → FeedCall
fed_call f = record { answer = f.answer; store = f.store; table = bytes_of f.table; events = bytes_of f.events }

-- the engine's feed of a table of words: the call has a work slice of its own, as long as the table, so that 12 never applies
unfoldable pub fed_with : Committee → Bytes → List ℕ → List ℕ → Bytes → Fed
fed_with c s t v rec = feed c (lent_of s t t v) rec

-- 01: "a table, events or positions (1,024) not of `listing`'s size 11, 15 or 40 in place": a table is 6,145 words, events are 8,192
unfoldable pub feed_of : Committee → Bytes → Bytes → Bytes → Bytes → FeedCall
feed_of c s t v rec =
    pick (eqb (length t) 49160)
    (pick (eqb (length v) 65536)
    (fed_call (fed_with c s (words_of t) (words_of v) rec))
    (refused_call s t v (refusal (early_checks c s (words_of t) rec ++ ((true ⇒ 15) ∷ [])))))
    (refused_call s t v (refusal_before 11 c s))

unfoldable pub feed_call : Bytes → Bytes → Bytes → Bytes → Bytes → FeedCall
feed_call stakes s t v rec = feed_of (committee_of stakes) s t v rec
