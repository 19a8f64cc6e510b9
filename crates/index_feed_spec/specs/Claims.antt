-- What one feed with the index means, as claims. Assumes nothing: these are definitions.
use Rattle.std.specs.Prelude.{ℕ, ◌≡◌, true, List}
use Rattle.base.specs.Le.{Bytes}
use Rattle.base.specs.Checks.{refused}
use Rattle.committee.specs.Committee.{Committee}
use Rattle.store_spec.specs.Store.{store_in_order}
use Rattle.feed_spec.specs.Feed.{Lent, refused_feed, feed}
use Rattle.final_spec.specs.Finality.{blocks_of}
use Rattle.index_spec.specs.Index.{index_agrees}
use Rattle.index_feed_spec.specs.IndexedFeed.{feed_indexed}

-- with an index that agrees, a feed is the one without it wherever 55 does not refuse
unfoldable pub AsWithout : Type 0
AsWithout = (c : Committee) (m : Lent) (ix : List ℕ) (bytes : Bytes) → index_agrees (blocks_of m.store) ix ≡ true
    → ((feed_indexed c m ix bytes).fed.answer ≡ refused 55 → ⊥) → (feed_indexed c m ix bytes).fed ≡ feed c m bytes

-- a refusal leaves everything
unfoldable pub RefusedLeaves : Type 0
RefusedLeaves = (c : Committee) (m : Lent) (ix : List ℕ) (bytes : Bytes) (n : ℕ) → (feed_indexed c m ix bytes).fed.answer ≡ refused n
    → ((feed_indexed c m ix bytes).fed ≡ refused_feed m n) × ((feed_indexed c m ix bytes).index ≡ ix)

-- an index that agrees with the store agrees with it after a feed, accepted or refused
unfoldable pub StaysAgreed : Type 0
StaysAgreed = (c : Committee) (m : Lent) (ix : List ℕ) (bytes : Bytes) → store_in_order c m.store ≡ true → index_agrees (blocks_of m.store) ix ≡ true
    → index_agrees (blocks_of (feed_indexed c m ix bytes).fed.store) (feed_indexed c m ix bytes).index ≡ true

pub record Claims : Type 0 where
  pub as_without : AsWithout
  pub refused : RefusedLeaves
  pub agreed : StaysAgreed
