-- Machinery for the contracts of inner functions: memory in order with an index that agrees, and what feeding a record leaves. Assumes nothing: these
-- are definitions.
use Rattle.std.specs.Prelude.{ℕ, ◌≤◌, ◌≡◌, List, ◌++◌, length, take, drop}
use Rattle.base.specs.Le.{Bytes}
use Rattle.committee.specs.Committee.{Committee}
use Rattle.store_spec.specs.Store.{records_of}
use Rattle.feed_many.specs.Records.{outcome_of, words_told}
use Rattle.feed_many.specs.declared.Told.{Told}
use Rattle.index_feed_spec.specs.IndexedFeed.{IndexedFed}
use Rattle.index_feed_refusals.specs.Step.{Agreed}
use Rattle.index_feed_many.specs.Records.{FedAllIndexed}

-- none of 5, 10, 11, 54, 12 applies, and it is known where the parts stand
pub record ReadyIndexed (c : Committee) (s : Bytes) (t ix w order starts : List ℕ) : Type 0 where
  pub agreed : Agreed c s t ix (take (length (records_of s)) order) starts
  pub work : length t ≤ length w
  pub places : length order ≡ 1024
  pub parts : length starts ≡ 1024

-- what is told of a feed, and the slices as it leaves them
pub record FedNextIndexed (f : IndexedFed) (r : Told) (s : Bytes) (t ix v : List ℕ) : Type 0 where
  pub outcome : r.outcome ≡ outcome_of f.fed.answer
  pub words : r.words ≡ words_told f.fed.answer
  pub room : r.words ≤ length v
  pub store : s ≡ f.fed.store
  pub table : t ≡ f.fed.table
  pub index : ix ≡ f.index
  pub events : v ≡ f.fed.events

-- the slices as feeding all records leaves them, with o what the outcomes were before
pub record FedEachIndexed (z : FedAllIndexed) (o : List ℕ) (n : ℕ) (s : Bytes) (t ix v o' : List ℕ) : Type 0 where
  pub number : n ≡ length z.outcomes
  pub store : s ≡ z.store
  pub table : t ≡ z.table
  pub index : ix ≡ z.index
  pub events : v ≡ z.events
  pub outcomes : o' ≡ z.outcomes ++ drop (length z.outcomes) o
