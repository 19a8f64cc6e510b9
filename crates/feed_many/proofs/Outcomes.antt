-- What is told of a feed, by its answer. Assumes nothing.
use mathlib.Core.Path.{◌≡◌, refl, sym, ap, subst}
use Prim.Native.Nat.{ℕ, ◌+◌, ◌*◌, ◌^◌, ◌≤◌}
use native.Mathlib.Omega.{arith}
use lib.ListN.{length}
use Rattle.base.specs.Le.{Bytes}
use Rattle.base.specs.Checks.{Answer, refused, answered}
use Rattle.committee.specs.Committee.{Committee}
use Rattle.feed_spec.specs.Feed.{Lent, feed}
use Rattle.feed_many.specs.Records.{outcome_of, words_told}
use Rattle.feed_many.specs.Step.{FedNext}
use Rattle.feed_many.specs.declared.Told.{Told}
use Rattle.feed_many.proofs.Telling.{telling}

module _ (c : Committee) (m : Lent) (bytes : Bytes) (n : ℕ) where
  pub told_refused : refused n ≡ (feed c m bytes).answer
      → FedNext (feed c m bytes) (record { outcome = 2 ^ 63 + n; words = 0 }) (feed c m bytes).store (feed c m bytes).table (feed c m bytes).events
  unfolding outcome_of words_told
  told_refused e = record { outcome = ap outcome_of e; words = ap words_told e; room = omega arith; store = refl; table = refl; events = refl }

  -- the events of an accepted record fit
  pub told_room : answered n ≡ (feed c m bytes).answer → 3 * n ≤ length (feed c m bytes).events
  unfolding words_told
  told_room e = subst (λ (a : Answer ℕ). words_told a ≤ length (feed c m bytes).events) (sym e) (telling c m bytes).inside

  pub told_accepted : answered n ≡ (feed c m bytes).answer
      → FedNext (feed c m bytes) (record { outcome = n; words = 3 * n }) (feed c m bytes).store (feed c m bytes).table (feed c m bytes).events
  unfolding outcome_of words_told
  told_accepted e = record { outcome = ap outcome_of e; words = ap words_told e; room = told_room e; store = refl; table = refl; events = refl }
