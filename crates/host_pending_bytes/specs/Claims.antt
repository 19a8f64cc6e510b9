-- What a pending stake promises. Assumes nothing: these are definitions.
use Rattle.std.specs.Prelude.{ℕ, ◌<◌, ◌≡◌, List}
use Rattle.base.specs.Le.{Bytes}
use Rattle.base.specs.Checks.{answered}
use Rattle.committee.specs.Committee.{Committee}
use Rattle.record_spec.specs.Reference.{TransactionLocator}
use Rattle.feed_spec.specs.Pending.{Standing, pending}

pub record Claims : Type 0 where
  -- a pending stake stays below 2^63, so it is taken for no refusal
  pub pending_stake : (c : Committee) (s : Bytes) (t : List ℕ) (l : TransactionLocator) (y : Standing) → pending c s t l ≡ answered y → y.stake <
      9223372036854775808
