-- What the question answers, refusal by refusal. Assumes nothing.
use mathlib.Core.Path.{◌≡◌, ap}
use mathlib.Core.Bool.{true, false}
use mathlib.Core.Option.{Option}
use Rattle.base.specs.Lists.{all_of}
use Rattle.base.specs.Le.{Bytes}
use Rattle.base.specs.Checks.{refusal, passes, refused, answered, checked}
use Rattle.committee.specs.Committee.{Committee, broken}
use Rattle.record_spec.specs.Reference.{TransactionLocator}
use Rattle.store_spec.specs.Store.{store_in_order}
use Rattle.final_spec.specs.Finality.{blocks_of}
use Rattle.final_spec.specs.NextFinal.{next_final_checks, next_final}
use Rattle.final_readings_spec.specs.Readings.{old}
use Rattle.list_ordinary_spec.specs.FinalShares.{next_final_share}
use Rattle.list_stretches_spec.specs.Stretches.{Listing}
use Rattle.list_stretches_spec.specs.Bulk.{list_next}
use Rattle.list_readings_spec.specs.Lists.{next_listed}
use Rattle.list_readings_spec.proofs.Old.{old_wide, old_ordinary}

module _ (c : Committee) (s : Bytes) (k : Listing) (after : Option TransactionLocator) where
  pub next_broken : broken c ≡ true → refused 5 ≡ list_next c s k after
  unfolding list_next next_final_checks checked passes refusal all_of
  next_broken h = rw h

  pub next_disordered : broken c ≡ false → store_in_order c s ≡ false → refused 10 ≡ list_next c s k after
  unfolding list_next next_final_checks checked passes refusal all_of
  next_disordered b h = rw (b, h)

  pub next_answered : broken c ≡ false → store_in_order c s ≡ true → (x : Option TransactionLocator) → x ≡ k.next after → answered x ≡ list_next c s k after
  unfolding list_next next_final_checks checked passes refusal all_of
  next_answered b h x e = rw (b, h, e)

-- in the old reading these are the questions without one
module _ (c : Committee) (s : Bytes) (after : Option TransactionLocator) where
  pub old_next : next_listed true old c s after ≡ next_final_share c s after
  unfolding list_next next_final_share
  old_next = ap (λ (k : Listing). list_next c s k after) (old_ordinary c (blocks_of s))

  pub old_next_wide : next_listed false old c s after ≡ next_final c s after
  unfolding list_next next_final
  old_next_wide = ap (λ (k : Listing). list_next c s k after) (old_wide c (blocks_of s))
