-- The next locator of a list, for a host. Assumes nothing.
use mathlib.Core.Path.{◌≡◌}
use mathlib.Core.Bool.{true, false}
use mathlib.Core.List.{List}
use mathlib.Core.Option.{Option, none, some}
use Prim.Native.Nat.{ℕ}
use lib.Dec.{eqb}
use lib.ListN.{length}
use Rattle.base.specs.Checks.{Answer, refused}
use Rattle.committee.specs.Committee.{Committee}
use Rattle.record_spec.specs.Reference.{TransactionLocator}
use Rattle.list_stretches_spec.specs.Stretches.{Listing}
use Rattle.list_stretches_spec.specs.Bulk.{list_next}
use Rattle.host_locators.specs.Locators.{refusal_before}
use Rattle.host_finals.specs.NextFinal.{asked_next_final}
use Rattle.host_final_answers.specs.Answers.{found_in}

module _ (c : Committee) (s : List ℕ) (k : Listing) (o : Option (Option TransactionLocator)) (out : List ℕ) where
  pub next_malformed : o ≡ none → asked_next_final c s k o out ≡ record { answer = refused (refusal_before 20 c s); found = out }
  unfolding asked_next_final
  next_malformed e = rw e

  pub next_unsized : (after : Option TransactionLocator) → o ≡ some after → eqb (length out) 56 ≡ false
      → asked_next_final c s k o out ≡ record { answer = refused (refusal_before 40 c s); found = out }
  unfolding asked_next_final
  next_unsized after e h = rw (e, h)

  -- a place and room for a locator: the engine's question
  pub next_asked : (after : Option TransactionLocator) (a : Answer (Option TransactionLocator)) → o ≡ some after → eqb (length out) 56 ≡ true → list_next c s k
      after ≡ a
      → asked_next_final c s k o out ≡ found_in out a
  unfolding asked_next_final
  next_asked after a e h q = rw (e, h, q)
