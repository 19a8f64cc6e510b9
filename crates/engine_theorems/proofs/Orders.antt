-- The order of arrival changes no list. Assumes nothing.
use mathlib.Core.Path.{◌≡◌, refl}
use mathlib.Core.Bool.{Bool, true, false}
use mathlib.Core.Option.{Option}
use Rattle.base.specs.Lists.{◌∈◌, all_of}
use Rattle.base.specs.Le.{Bytes}
use Rattle.base.specs.Checks.{checked, passes}
use Rattle.committee.specs.Committee.{Committee, broken}
use Rattle.record_spec.specs.Reference.{TransactionLocator}
use Rattle.record_spec.specs.Block.{Block}
use Rattle.store_spec.specs.Store.{store_in_order, records_of}
use Rattle.store_spec.proofs.Store.{in_order_lem}
use Rattle.final_spec.specs.Finality.{blocks_of}
use Rattle.final_spec.specs.NextFinal.{next_final_checks}
use Rattle.final_spec.specs.Claims.{Stored}
use Rattle.list_stretches_spec.specs.Stretches.{Listing, stretches, reached, more_follow}
use Rattle.list_stretches_spec.specs.Bulk.{stretch_room, list_next, list_stretches, given_after}
use Rattle.final_readings_spec.specs.Readings.{Reading}
use Rattle.list_readings_spec.specs.Lists.{listing, least_listed, next_listed, listed_stretches}
use Rattle.list_readings_spec.specs.Claims.{SameInAnyOrder, InAnyOrder}
use Rattle.list_readings_spec.proofs.Claimed.{claimed}
use Rattle.mission_theorems.specs.ThirdStatement.{Start, engine_of, SameRecords}
use Rattle.mission_theorems.proofs.Finals.{store_of, same_blocks}
use Rattle.engine_theorems.specs.Claims.{SameAnswers, OrderUnseen}

stored_of : (c : Committee) → broken c ≡ false → (s : Bytes) → store_in_order c s ≡ true → Stored c (blocks_of s)
unfolding blocks_of
stored_of c b s h = record { sound = b; records = records_of s; accepted = (in_order_lem c s h).accepted; blocks = refl }

module _ (ordinary : Bool) (reading : Reading) (c : Committee) (b : broken c ≡ false) (s r : Bytes) (h : store_in_order c s ≡ true)
    (k : store_in_order c r ≡ true)
    (same : SameInAnyOrder ordinary reading c (blocks_of s) (blocks_of r)) where
  same_next : (after : Option TransactionLocator) → next_listed ordinary reading c s after ≡ next_listed ordinary reading c r after
  unfolding list_next next_final_checks checked passes all_of listing
  same_next after = rw (b, h, k, same.next after)

  same_bulk : (out : Bytes) (after : Option TransactionLocator) → listed_stretches ordinary reading c s out after ≡ listed_stretches ordinary reading c r out
      after
  unfolding list_stretches given_after more_follow next_final_checks checked passes all_of
  same_bulk out after =
      rw (
        b,
        h,
        k,
        same.bulk (stretch_room out) after,
        same_found (reached after
            (stretches c (blocks_of r) (listing ordinary reading c (blocks_of r)) (stretch_room out) after)),
      )
    where
      same_found : (a : Option TransactionLocator) → (listing ordinary reading c (blocks_of s)).next a ≡ (listing ordinary reading c (blocks_of r)).next a
      same_found a = unfold listing in same.next a

pub order_unseen : OrderUnseen
unfolding OrderUnseen InAnyOrder
order_unseen ordinary reading c b t u f =
    let s : Bytes = (engine_of c t).store in
    let r : Bytes = (engine_of c u).store in
    let h : store_in_order c s ≡ true = (store_of c t).order in
    let k : store_in_order c r ≡ true = (store_of c u).order in
    let x : SameInAnyOrder ordinary reading c (blocks_of s) (blocks_of r) = claimed.order ordinary reading c (blocks_of s) (blocks_of r) (stored_of c b s h)
    (stored_of c b r k) (same_blocks c t u f) in
    record { next = same_next ordinary reading c b s r h k x; bulk = same_bulk ordinary reading c b s r h k x }
