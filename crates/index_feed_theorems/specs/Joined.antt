-- A call with many records and the index beside two calls. Assumes nothing: these are definitions.
use Rattle.std.specs.Prelude.{ℕ, ◌+◌, ◌^◌, ◌<◌, ◌≡◌, true, List, ◌++◌, length, take, drop}
use Rattle.base.specs.Le.{Bytes}
use Rattle.base.specs.Checks.{answered}
use Rattle.committee.specs.Committee.{Committee}
use Rattle.feed_spec.specs.Feed.{Lent, lent_of}
use Rattle.feed_many_theorems.specs.Claims.{framed, sized, words_of_all}
use Rattle.index_feed_many.specs.Records.{IndexedRecordsCall, feed_records_indexed}

-- a second call after one that answered n records: the store, the table and the index as that left them, and the rest of its events and outcomes
unfoldable pub call_on_indexed : Committee → Lent → ℕ → IndexedRecordsCall → Bytes → IndexedRecordsCall
call_on_indexed c m n f bytes =
    feed_records_indexed c (lent_of f.store f.table m.work (drop (words_of_all (take n f.outcomes)) f.events)) f.index (drop n f.outcomes) bytes

-- two calls one after the other, with n and k records, leave what one call leaves
pub record JoinedIndexed (n k : ℕ) (whole first second : IndexedRecordsCall) : Type 0 where
  pub all : whole.answer ≡ answered (n + k)
  pub these : first.answer ≡ answered n
  pub others : second.answer ≡ answered k
  pub store : whole.store ≡ second.store
  pub table : whole.table ≡ second.table
  pub index : whole.index ≡ second.index
  pub events : whole.events ≡ take (words_of_all (take n first.outcomes)) first.events ++ second.events
  pub outcomes : whole.outcomes ≡ take n first.outcomes ++ second.outcomes

pub record Claims : Type 0 where
  -- a call that is not refused can be made as two
  pub joined : (c : Committee) (m : Lent) (ix o : List ℕ) (rs qs : List Bytes) (n : ℕ) → sized (rs ++ qs) ≡ true → length m.events < 2 ^ 63
      → (feed_records_indexed c m ix o (framed (rs ++ qs))).answer ≡ answered n
      → JoinedIndexed (length rs) (length qs) (feed_records_indexed c m ix o (framed (rs ++ qs))) (feed_records_indexed c m ix o (framed rs))
      (call_on_indexed c m (length rs) (feed_records_indexed c m ix o (framed rs)) (framed qs))
