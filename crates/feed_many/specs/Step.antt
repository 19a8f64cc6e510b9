-- Machinery for the contracts of inner functions: memory in order, the next record, and what feeding it leaves. Assumes nothing: these are definitions.
use Rattle.std.specs.Prelude.{ℕ, ◌-◌, ◌≤◌, ◌<◌, ◌≡◌, List, ◌∷◌, ◌++◌, length, take, drop}
use Rattle.base.specs.Le.{Bytes}
use Rattle.base.specs.Checks.{refusal}
use Rattle.committee.specs.Committee.{Committee}
use Rattle.feed_spec.specs.Pending.{pending_checks}
use Rattle.feed_spec.specs.Feed.{Fed}
use Rattle.feed_frames.specs.Frames.{records_in}
use Rattle.feed_many.specs.Records.{outcome_of, words_told, FedAll}
use Rattle.feed_frames.specs.declared.Frame.{Frame}
use Rattle.feed_many.specs.declared.Told.{Told}

-- none of 5, 10, 11, 12 applies
pub record Ready (c : Committee) (s : Bytes) (t w : List ℕ) : Type 0 where
  pub lent : refusal (pending_checks c s t) ≡ 0
  pub work : length t ≤ length w

-- what is told of a feed, and the slices as it leaves them
pub record FedNext (f : Fed) (r : Told) (s : Bytes) (t v : List ℕ) : Type 0 where
  pub outcome : r.outcome ≡ outcome_of f.answer
  pub words : r.words ≡ words_told f.answer
  pub room : r.words ≤ length v
  pub store : s ≡ f.store
  pub table : t ≡ f.table
  pub events : v ≡ f.events

-- the slices as feeding all records leaves them, with o what the outcomes were before
pub record FedEach (z : FedAll) (o : List ℕ) (n : ℕ) (s : Bytes) (t v o' : List ℕ) : Type 0 where
  pub number : n ≡ length z.outcomes
  pub store : s ≡ z.store
  pub table : t ≡ z.table
  pub events : v ≡ z.events
  pub outcomes : o' ≡ z.outcomes ++ drop (length z.outcomes) o
