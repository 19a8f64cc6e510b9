-- What a call with many records means beside other calls, as claims. Assumes nothing: these are definitions.
use Rattle.std.specs.Prelude.{ℕ, ◌+◌, ◌*◌, ◌^◌, ◌≤◌, ◌<◌, ◌≡◌, Bool, true, false, List, [], ◌∷◌, ◌++◌, map, eqb, ltb, length, take, drop}
use Rattle.base.specs.Lists.{pick, any_of, all_of, sum_of}
use Rattle.base.specs.Le.{Bytes, le_at, le_bytes}
use Rattle.base.specs.Checks.{passes, refused, answered}
use Rattle.committee.specs.Committee.{Committee}
use Rattle.feed_spec.specs.Feed.{Lent, lent_of, lent_checks, feed}
use Rattle.feed_frames.specs.Frames.{records_in}
use Rattle.feed_many.specs.Records.{outcome_of, FedAll, feed_all, RecordsCall, feed_records}

-- records as they are lent to the call: each after its length in four bytes
unfoldable pub framed : List Bytes → Bytes
framed [] = []
framed (r ∷ rs) = le_bytes 4 (length r) ++ (r ++ framed rs)

-- lengths that four bytes hold
unfoldable pub sized : List Bytes → Bool
sized rs = all_of (λ r. ltb (length r) (2 ^ 32)) rs

-- the words of all events that outcomes tell of: three for each event of an accepted record
unfoldable pub words_of_all : List ℕ → ℕ
words_of_all os = sum_of (map (λ x. pick (ltb x (2 ^ 63)) (3 * x) 0) os)

-- some record was refused for want of words for its events
unfoldable pub ran_out : List ℕ → Bool
ran_out os = any_of (λ x. eqb x (2 ^ 63 + 15)) os

-- a second call after one that answered n records: the store and the table as that left them, and the rest of its events and outcomes
unfoldable pub call_on : Committee → Lent → ℕ → RecordsCall → Bytes → RecordsCall
call_on c m n f bytes =
    feed_records c (lent_of f.store f.table m.work (drop (words_of_all (take n f.outcomes)) f.events)) (drop n f.outcomes) bytes

-- two calls one after the other, with n and k records, leave what one call leaves
pub record Joined (n k : ℕ) (whole first second : RecordsCall) : Type 0 where
  pub all : whole.answer ≡ answered (n + k)
  pub these : first.answer ≡ answered n
  pub others : second.answer ≡ answered k
  pub store : whole.store ≡ second.store
  pub table : whole.table ≡ second.table
  pub events : whole.events ≡ take (words_of_all (take n first.outcomes)) first.events ++ second.events
  pub outcomes : whole.outcomes ≡ take n first.outcomes ++ second.outcomes

-- the same outcomes, store and table
pub record SameFeeds (z y : FedAll) : Type 0 where
  pub outcomes : z.outcomes ≡ y.outcomes
  pub store : z.store ≡ y.store
  pub table : z.table ≡ y.table

pub record Claims : Type 0 where
  -- the records that were framed are read back
  pub framing : (rs : List Bytes) → sized rs ≡ true → records_in (framed rs) ≡ rs
  -- a length past the end, or one to three stray bytes, is one last record of no bytes
  pub broken_end : (rs : List Bytes) (x : Bytes) → sized rs ≡ true → 0 < length x → length x < 4 + le_at 4 x 0
      → records_in (framed rs ++ x) ≡ rs ++ ([] ∷ [])
  -- and that is malformed
  pub malformed : (c : Committee) (m : Lent) → passes (lent_checks c m) ≡ true → (feed c m []).answer ≡ refused 20
  -- one record is fed as `feed` feeds it
  pub one : (c : Committee) (m : Lent) (o : List ℕ) (r : Bytes) → length r < 2 ^ 32 → passes (lent_checks c m) ≡ true → 1 ≤ length o
      → feed_records c m o (framed (r ∷ []))
      ≡ record {
        answer = answered 1;
        store = (feed c m r).store;
        table = (feed c m r).table;
        events = (feed c m r).events;
        outcomes = outcome_of
            (feed c m r).answer ∷ drop 1 o;
      }
  -- words past the last event keep their content
  pub past_events : (c : Committee) (m : Lent) (rs : List Bytes) → length m.events < 2 ^ 63
      → drop (words_of_all (feed_all c m rs).outcomes) (feed_all c m rs).events ≡ drop (words_of_all (feed_all c m rs).outcomes) m.events
  -- a call that is not refused can be made as two
  pub joined : (c : Committee) (m : Lent) (o : List ℕ) (rs qs : List Bytes) (n : ℕ) → sized (rs ++ qs) ≡ true → length m.events < 2 ^ 63
      → (feed_records c m o (framed (rs ++ qs))).answer ≡ answered n
      → Joined (length rs) (length qs) (feed_records c m o (framed (rs ++ qs))) (feed_records c m o (framed rs))
      (call_on c m (length rs) (feed_records c m o (framed rs)) (framed qs))
  -- where no events slice runs out, it does not matter which one is lent
  pub any_events : (c : Committee) (s : Bytes) (t w v u : List ℕ) (rs : List Bytes)
      → ran_out (feed_all c (lent_of s t w v) rs).outcomes ≡ false → ran_out (feed_all c (lent_of s t w u) rs).outcomes ≡ false
      → SameFeeds (feed_all c (lent_of s t w v) rs) (feed_all c (lent_of s t w u) rs)
