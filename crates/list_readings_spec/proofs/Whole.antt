-- The whole of each list: exactly its locators, ascending, and what the question gives when it is asked on. Assumes nothing.
use mathlib.Core.Path.{◌≡◌, refl}
use mathlib.Core.Logic.{◌↔◌}
use mathlib.Core.Bool.{Bool, true, false}
use mathlib.Core.List.{List}
use mathlib.Core.Option.{Option, none}
use Rattle.base.specs.Lists.{all_of, ◌∈◌}
use Rattle.base.specs.Le.{Bytes}
use Rattle.base.specs.Checks.{refusal, passes, answered, checked}
use Rattle.base.proofs.Tests.{and_both, and_left, and_right, not_both}
use Rattle.base.proofs.Members.{in_keep, keep_in}
use Rattle.committee.specs.Committee.{Committee, broken}
use Rattle.record_spec.specs.Reference.{TransactionLocator}
use Rattle.record_spec.specs.Block.{Block}
use Rattle.store_spec.specs.Store.{store_in_order}
use Rattle.store_spec.specs.Shares.{is_stored_share, StoredShare}
use Rattle.store_spec.proofs.Shares.{stored_share, share_stored}
use Rattle.store_spec.proofs.Stored.{WellStored}
use Rattle.final_spec.specs.Finality.{blocks_of}
use Rattle.final_spec.specs.NextFinal.{next_final_checks, AskedOf}
use Rattle.final_spec.proofs.Asked.{asked_all}
use Rattle.final_spec.proofs.FinalList.{Ascending, keep_ascending}
use Rattle.list_stretches_spec.specs.Bulk.{list_next}
use Rattle.list_stretches_spec.specs.Claims.{Gives}
use Rattle.list_stretches_spec.proofs.Wide.{gives_asked}
use Rattle.final_readings_spec.specs.Readings.{Reading}
use Rattle.final_readings_spec.specs.Withdrawing.{FinalIn}
use Rattle.final_readings_spec.specs.NextFinal.{final_list_in}
use Rattle.final_readings_spec.proofs.FinalsIn.{final_in_iff}
use Rattle.final_readings_spec.proofs.ListsIn.{list_ascending, list_in}
use Rattle.list_ordinary_spec.proofs.Orders.{ascending_pairwise, ascending_once}
use Rattle.list_readings_spec.specs.Lists.{is_listed, least_listed, listing, all_listed, next_listed}
use Rattle.list_readings_spec.specs.Claims.{Exactly}
use Rattle.list_readings_spec.proofs.Least.{least_listed_lem}

pub all_ascending : (shared : Bool) (reading : Reading) (c : Committee) (bs : List Block) → Ascending (all_listed shared reading c bs)
unfolding all_listed
all_ascending true reading c bs = keep_ascending (is_stored_share bs) (list_ascending reading c bs)
all_ascending false reading c bs = list_ascending reading c bs

-- it holds the locators that the list shows and no others
pub all_in : (shared : Bool) (reading : Reading) (c : Committee) (bs : List Block) (l : TransactionLocator) → (l ∈ all_listed shared reading c bs) ↔
    (is_listed shared reading c bs l ≡ true)
unfolding all_listed is_listed
all_in true reading c bs l = (
  λ m. let k = keep_in (is_stored_share bs) (final_list_in reading c bs) m in and_both _ _ k.1 ((list_in reading c bs l).0 k.0),
  λ h. in_keep (is_stored_share bs) (final_list_in reading c bs) ((list_in reading c bs l).1 (and_right (is_stored_share bs l) _ h)) (and_left _ _ h),
)
all_in false reading c bs l = list_in reading c bs l

-- ---- asked on

module _ (shared : Bool) (reading : Reading) (c : Committee) (s : Bytes) (b : broken c ≡ false) (h : store_in_order c s ≡ true) where
  -- a question that is not refused gives the least locator
  next_answers : (after : Option TransactionLocator) → next_listed shared reading c s after ≡ answered (least_listed shared reading c (blocks_of s) after)
  unfolding listing list_next next_final_checks checked passes refusal all_of
  next_answers after = rw (b, h)

  pub asked_whole : AskedOf (next_listed shared reading c s) none (all_listed shared reading c (blocks_of s))
  asked_whole =
      asked_all (is_listed shared reading c (blocks_of s)) (next_listed shared reading c s) (least_listed shared reading c (blocks_of s)) next_answers
      (λ after. least_listed_lem shared reading c (blocks_of s) after) (all_ascending shared reading c (blocks_of s))
      (λ l. all_in shared reading c (blocks_of s) l)

  -- the list gives what the question gives
  pub gives_whole : {after : Option TransactionLocator} {ls : List TransactionLocator} → Gives (listing shared reading c (blocks_of s)) after ls ↔ AskedOf
      (next_listed shared reading c s) after ls
  unfolding listing
  gives_whole = gives_asked (listing shared reading c (blocks_of s)) (next_listed shared reading c s) next_answers

-- ---- exactly

module _ (reading : Reading) (c : Committee) {bs : List Block} (w : WellStored bs) (l : TransactionLocator) where
  exact : (shared : Bool) → (l ∈ all_listed shared reading c bs) ↔ ((shared ≡ true → StoredShare bs l) × FinalIn reading c bs l)
  unfolding is_listed
  exact true = (
    λ m. let k = (all_in true reading c bs l).0 m in (
      λ e. stored_share bs l (and_left _ _ k),
      (final_in_iff reading c w l).0
          (and_right (is_stored_share bs l) _ k),
    ),
    λ x. (all_in true reading c bs l).1 (and_both _ _ (share_stored bs l (x.0 refl)) ((final_in_iff reading c w l).1 x.1)),
  )
  exact false = (
    λ m. (λ e. absurd (not_both e refl), (final_in_iff reading c w l).0 ((all_in false reading c bs l).0 m)),
    λ x. (all_in false reading c bs l).1 ((final_in_iff reading c w l).1 x.1),
  )

pub whole_exactly : (shared : Bool) (reading : Reading) (c : Committee) {bs : List Block} → WellStored bs → Exactly shared reading c bs
whole_exactly shared reading c {bs} w =
    record {
      exactly = λ l. exact reading c w l shared;
      ascending = ascending_pairwise (all_ascending shared reading c bs);
      once = ascending_once (all_ascending shared reading c bs);
    }
