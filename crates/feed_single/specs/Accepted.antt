-- Machinery for the contracts of inner functions: what counting and storing a record leaves. Assumes nothing: these are definitions.
use Rattle.std.specs.Prelude.{ℕ, ◌≡◌, List}
use Rattle.base.specs.Le.{Bytes}
use Rattle.base.specs.Checks.{answered}
use Rattle.feed_spec.specs.Feed.{Fed}

-- the number of events, and the slices afterwards, are those of an accepted feed
pub record AcceptedAs (f : Fed) (n : ℕ) (s : Bytes) (t v : List ℕ) : Type 0 where
  pub answer : answered n ≡ f.answer
  pub store : s ≡ f.store
  pub table : t ≡ f.table
  pub events : v ≡ f.events
