-- What a call with many records and the index means, as claims. Assumes nothing: these are definitions.
use Rattle.std.specs.Prelude.{ℕ, ◌≡◌, true, List}
use Rattle.base.specs.Le.{Bytes}
use Rattle.base.specs.Checks.{passes}
use Rattle.committee.specs.Committee.{Committee}
use Rattle.feed_spec.specs.Feed.{Lent}
use Rattle.index_feed_spec.specs.IndexedFeed.{indexed_lent_checks}
use Rattle.index_spec.specs.Index.{used_part, index_of}
use Rattle.index_feed_many.specs.Records.{feed_all_indexed}

pub record Claims : Type 0 where
  -- 02: "After any list of feeds with it the index equals the one worked out afresh from the store"
  pub afresh : (c : Committee) (m : Lent) (ix : List ℕ) (rs : List Bytes) → passes (indexed_lent_checks c m.store m.table ix) ≡ true
      → used_part (feed_all_indexed c m ix rs).index ≡ index_of (feed_all_indexed c m ix rs).store
