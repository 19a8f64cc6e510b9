-- What refused calls of a host leave of the memory that they were lent. Assumes nothing: these are definitions.
use Rattle.std.specs.Prelude.{ℕ, ◌≡◌, true, List}
use Rattle.base.specs.Le.{Bytes}
use Rattle.base.specs.Checks.{refused}
use Rattle.record_spec.specs.Claims.{are_bytes}
use Rattle.host_final_answers.specs.Answers.{NextFinalCall}
use Rattle.host_feed_indexed.specs.IndexedFeed.{IndexedCall, feed_indexed_call}
use Rattle.host_feed_records.specs.FeedRecords as plain
use Rattle.host_feed_records_indexed.specs.FeedRecords as indexed
use Rattle.host_finals.specs.NextFinal.{next_final_call, next_wide_call, next_final_withdrawing_call, next_wide_withdrawing_call}
use Rattle.host_finals.specs.Stretches.{StretchesCall, stretches_call, wide_stretches_call, stretches_withdrawing_call, wide_stretches_withdrawing_call}
use Rattle.host_index_finals.specs.Indexed.{stretches_indexed_call, wide_stretches_indexed_call}

-- ---- 01: "A refusal writes nothing": the lent memory is as it was

-- of the store s, the table t, the index ix and the events v, of which table and events cross as bytes
pub record FeedKept (o : IndexedCall) (s t : Bytes) (ix : List ℕ) (v : Bytes) : Type 0 where
  pub store : o.store ≡ s
  pub table : o.table ≡ t
  pub index : o.index ≡ ix
  pub events : o.events ≡ v

unfoldable pub RefusedFeed : Type 0
RefusedFeed = (stakes s t : Bytes) (ix : List ℕ) (v rec : Bytes) (n : ℕ) → are_bytes t ≡ true → are_bytes v ≡ true
    → (feed_indexed_call stakes s t ix v rec).answer ≡ refused n → FeedKept (feed_indexed_call stakes s t ix v rec) s t ix v

-- many records: events and outcomes cross as words
unfoldable pub RefusedRecords : Type 0
RefusedRecords = (stakes s t : Bytes) (v o : List ℕ) (recs : Bytes) (n : ℕ) → are_bytes t ≡ true
    → (plain.feed_records_call stakes s t v o recs).answer ≡ refused n
    → plain.feed_records_call stakes s t v o recs ≡ plain.refused_host s t v o n

unfoldable pub RefusedRecordsIndexed : Type 0
RefusedRecordsIndexed = (stakes s t : Bytes) (ix v o : List ℕ) (recs : Bytes) (n : ℕ) → are_bytes t ≡ true
    → (indexed.feed_records_indexed_call stakes s t ix v o recs).answer ≡ refused n
    → indexed.feed_records_indexed_call stakes s t ix v o recs ≡ indexed.refused_host s t ix v o n

-- of the bytes that a question for the next locator is lent
unfoldable pub NextKept : (Bytes → Bytes → Bytes → Bytes → NextFinalCall) → Type 0
NextKept call = (stakes s after out : Bytes) (n : ℕ) → (call stakes s after out).answer ≡ refused n → (call stakes s after out).found ≡ out

-- of the bytes that a list in bulk is lent
unfoldable pub StretchesKept : (Bytes → Bytes → Bytes → Bytes → StretchesCall) → Type 0
StretchesKept call = (stakes s after out : Bytes) (n : ℕ) → (call stakes s after out).answer ≡ refused n → (call stakes s after out).stretches ≡ out

pub record Claims : Type 0 where
  pub feed_indexed : RefusedFeed
  pub feed_records : RefusedRecords
  pub feed_records_indexed : RefusedRecordsIndexed
  -- the ordinary and the wide list, in both readings
  pub next_final : NextKept next_final_call
  pub next_wide : NextKept next_wide_call
  pub next_final_withdrawing : NextKept next_final_withdrawing_call
  pub next_wide_withdrawing : NextKept next_wide_withdrawing_call
  -- in bulk
  pub stretches : StretchesKept stretches_call
  pub wide_stretches : StretchesKept wide_stretches_call
  pub stretches_withdrawing : StretchesKept stretches_withdrawing_call
  pub wide_stretches_withdrawing : StretchesKept wide_stretches_withdrawing_call
  -- with whatever index
  pub stretches_indexed : (ix : List ℕ) → StretchesKept (λ stakes s after out. stretches_indexed_call stakes s ix after out)
  pub wide_stretches_indexed : (ix : List ℕ) → StretchesKept (λ stakes s after out. wide_stretches_indexed_call stakes s ix after out)
