-- What the question in bulk answers, refusal by refusal. Assumes nothing.
use mathlib.Core.Path.{◌≡◌, ap}
use mathlib.Core.Bool.{true, false}
use mathlib.Core.List.{List}
use mathlib.Core.Option.{Option}
use lib.ListN.{length}
use Rattle.base.specs.Lists.{all_of}
use Rattle.base.specs.Le.{Bytes}
use Rattle.base.specs.Checks.{refusal, passes, Answer, refused, answered, checked}
use Rattle.committee.specs.Committee.{Committee, broken}
use Rattle.record_spec.specs.Reference.{TransactionLocator}
use Rattle.store_spec.specs.Store.{store_in_order}
use Rattle.final_spec.specs.NextFinal.{next_final_checks}
use Rattle.final_spec.specs.Finality.{blocks_of}
use Rattle.list_stretches_spec.specs.Stretches.{Listing, stretches}
use Rattle.list_stretches_spec.specs.Bulk.{Given, given_after, stretch_room, bytes_after, list_stretches, final_stretches}
use Rattle.list_ordinary_spec.specs.Ordinary.{share_stretches}
use Rattle.final_readings_spec.specs.Readings.{old}
use Rattle.list_readings_spec.specs.Lists.{listed_stretches}
use Rattle.list_readings_spec.proofs.Old.{old_wide, old_ordinary}

module _ (c : Committee) (s : Bytes) (k : Listing) (out : Bytes) (after : Option TransactionLocator) where
  pub bulk_broken : broken c ≡ true → record { answer = refused 5; out = out } ≡ list_stretches c s k out after
  unfolding list_stretches next_final_checks checked passes refusal all_of
  bulk_broken h = rw h

  module _ (b : broken c ≡ false) where
    pub bulk_disordered : store_in_order c s ≡ false → record { answer = refused 10; out = out } ≡ list_stretches c s k out after
    unfolding list_stretches next_final_checks checked passes refusal all_of
    bulk_disordered h = rw (b, h)

    pub bulk_asked : store_in_order c s ≡ true → (a : Answer Given) (bytes : Bytes) → a ≡ answered
        (given_after k after (stretches c (blocks_of s) k (stretch_room out) after))
        → bytes ≡ bytes_after (stretches c (blocks_of s) k (stretch_room out) after) out → record { answer = a; out = bytes } ≡ list_stretches c s k out after
    unfolding list_stretches next_final_checks checked passes refusal all_of
    bulk_asked o a bytes e f = rw (b, o, e, f)

-- in the old reading these are the questions without one
module _ (c : Committee) (s : Bytes) (out : Bytes) (after : Option TransactionLocator) where
  pub old_shares : listed_stretches true old c s out after ≡ share_stretches c s out after
  old_shares = ap (λ (k : Listing). list_stretches c s k out after) (old_ordinary c (blocks_of s))

  pub old_finals : listed_stretches false old c s out after ≡ final_stretches c s out after
  old_finals = ap (λ (k : Listing). list_stretches c s k out after) (old_wide c (blocks_of s))
