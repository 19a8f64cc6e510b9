-- The list of loadable stored shares. Assumes nothing.
use mathlib.Core.Path.{◌≡◌, refl, sym, ap₂, subst, ◌∙◌}
use mathlib.Core.Bool.{Bool, true}
use mathlib.Core.List.{List}
use mathlib.Core.Option.{some, some-injective, none-ne-some}
use Prim.Native.Nat.{◌≤◌, ◌<◌}
use lib.ListN.{length}
use Rattle.base.specs.Lists.{any_of, keep, ◌∈◌, here}
use Rattle.base.specs.Le.{Bytes}
use Rattle.base.proofs.Tests.{same_test}
use Rattle.base.proofs.Lists.{length_keep}
use Rattle.base.proofs.Members.{any_in, in_any, in_right, in_keep, keep_in}
use Rattle.committee.specs.Committee.{Committee}
use Rattle.record_spec.specs.Reference.{TransactionLocator, same_locator}
use Rattle.record_spec.specs.Block.{Block, author}
use Rattle.record_spec.proofs.References.{locator_same, same_locator_lem, lower_round}
use Rattle.store_spec.proofs.Stored.{WellStored}
use Rattle.final_spec.proofs.FinalList.{Ascending, keep_ascending}
use Rattle.final_readings_spec.specs.Readings.{Reading, is_final_in}
use Rattle.final_readings_spec.specs.Withdrawing.{FinalIn}
use Rattle.final_readings_spec.proofs.FinalsIn.{final_in_iff, final_in_order}
use Rattle.list_ordinary_spec.specs.Shares.{stored_shares}
use Rattle.list_ordinary_spec.specs.Claims.{SameBlocks}
use Rattle.list_ordinary_spec.proofs.Orders.{ascending_pairwise, ascending_once, stands_before}
use Rattle.list_ordinary_spec.proofs.Shares.{all_ascending, in_all_shares}
use Rattle.list_ordinary_spec.proofs.Lists.{same_all_shares}
use Rattle.list_readings_spec.specs.Lists.{all_listed}
use Rattle.list_readings_spec.proofs.Whole.{whole_exactly}
use Rattle.load_spec.specs.Needs.{needed_by, SharedAs}
use Rattle.load_spec.specs.Loadable.{LoadableGiven, alone, following, LoadableIn, is_loadable_in, loadable_list_in}
use Rattle.load_spec.specs.Claims.{NeededFirst, ListMeant, SameLoadable}
use Rattle.load_spec.proofs.Payloads.{one_payload}
use Rattle.load_spec.proofs.Meaning.{loadable_stored, loadable_final, loadable_carried, loadable_is, is_loadable}

-- what a loadable share needs is loadable, of a lower round
needed_loadable : {final : TransactionLocator → Type 0} {bs : List Block} → WellStored bs → {l : TransactionLocator} → LoadableGiven final bs l → {p : Bytes}
    → SharedAs bs l p → (m : TransactionLocator) → needed_by p ≡ some m
    → (m.block.round < l.block.round) × LoadableGiven final bs m
needed_loadable w (alone {p = q} s f e) {p} t m k =
    let same : p ≡ q = one_payload w t s in
    absurd (none-ne-some m (sym e ∙ (rw same at k)))
needed_loadable {final} {bs} w {l} (following {m = n} {p = q} s f e r x) {p} t m k =
    let same : p ≡ q = one_payload w t s in
    let one : n ≡ m = some-injective n m (sym e ∙ (rw same at k)) in
    subst (λ (y : TransactionLocator). (y.block.round < l.block.round) × LoadableGiven final bs y) one (r, x)

module _ (reading : Reading) (c : Committee) {bs : List Block} (w : WellStored bs) where
  pub list_in : (l : TransactionLocator) → l ∈ loadable_list_in reading c bs → LoadableIn reading c bs l
  unfolding loadable_list_in
  list_in l m = loadable_is reading c w l (keep_in (is_loadable_in reading c bs) (stored_shares bs) m).1

  pub in_list : (l : TransactionLocator) → LoadableIn reading c bs l → l ∈ loadable_list_in reading c bs
  unfolding loadable_list_in
  in_list l x = in_keep (is_loadable_in reading c bs) (stored_shares bs) (in_all_shares bs l (loadable_stored x)) (is_loadable reading c w l x)

  pub list_ascending : Ascending (loadable_list_in reading c bs)
  unfolding loadable_list_in
  list_ascending = keep_ascending (is_loadable_in reading c bs) (all_ascending bs)

  needed_first_lem : NeededFirst reading c bs
  unfolding NeededFirst
  needed_first_lem xs l ys e p m s k =
      let own : l ∈ loadable_list_in reading c bs = subst (λ (ls : List TransactionLocator). l ∈ ls) (sym e) (in_right xs here) in
      let x = needed_loadable w (list_in l own) s m k in
      stands_before xs l ys (subst Ascending e list_ascending) m (subst (λ (ls : List TransactionLocator). m ∈ ls) e (in_list m x.1))
      (lower_round m l x.0)

  agrees : (l : TransactionLocator) → is_loadable_in reading c bs l ≡ any_of (same_locator l) (loadable_list_in reading c bs)
  agrees l =
      same_test (is_loadable_in reading c bs l) (any_of (same_locator l) (loadable_list_in reading c bs))
      (λ h. in_any (same_locator l) (in_list l (loadable_is reading c w l h)) (same_locator_lem refl))
      (λ h.
      let x = any_in (same_locator l) (loadable_list_in reading c bs) h in
      is_loadable reading c w l (subst (LoadableIn reading c bs) (sym (locator_same l x.0 x.2)) (list_in x.0 x.1)))

  final_too : (l : TransactionLocator) → l ∈ loadable_list_in reading c bs → l ∈ all_listed true reading c bs
  final_too l m = let x = list_in l m in ((whole_exactly true reading c w).exactly l).1 (λ e. loadable_stored x, loadable_final x)

  few : length (loadable_list_in reading c bs) ≤ length (stored_shares bs)
  unfolding loadable_list_in
  few = length_keep (is_loadable_in reading c bs) (stored_shares bs)

  pub list_meant : ListMeant reading c bs
  list_meant =
      record {
        exactly = λ l. (list_in l, in_list l);
        once = ascending_once list_ascending;
        ascending = ascending_pairwise list_ascending;
        needed_first = needed_first_lem;
        agrees = agrees;
        final = final_too;
        few = few;
      }

-- where the same locators are final and the same blocks are stored, the same shares are loadable
module _ (reading other : Reading) (c : Committee) {bs cs : List Block} (v : WellStored bs) (w : WellStored cs) (e : SameBlocks bs cs)
    (same-finals : (l : TransactionLocator) → is_final_in reading c bs l ≡ is_final_in other c cs l) where
  to : (l : TransactionLocator) → FinalIn reading c bs l → FinalIn other c cs l
  to l q = (final_in_iff other c w l).0 (sym (same-finals l) ∙ (final_in_iff reading c v l).1 q)

  from : (l : TransactionLocator) → FinalIn other c cs l → FinalIn reading c bs l
  from l q = (final_in_iff reading c v l).0 (same-finals l ∙ (final_in_iff other c w l).1 q)

  pub same_answer : (l : TransactionLocator) → is_loadable_in reading c bs l ≡ is_loadable_in other c cs l
  same_answer l =
      same_test (is_loadable_in reading c bs l) (is_loadable_in other c cs l)
      (λ h. is_loadable other c w l (loadable_carried (λ b. (e b).0) to (loadable_is reading c v l h)))
      (λ h. is_loadable reading c v l (loadable_carried (λ b. (e b).1) from (loadable_is other c w l h)))

  pub same_lists : loadable_list_in reading c bs ≡ loadable_list_in other c cs
  unfolding loadable_list_in
  same_lists = ap₂ (λ (p : TransactionLocator → Bool) (ls : List TransactionLocator). keep p ls) (λ i l. same_answer l i) (same_all_shares e)

-- the same for every order of arrival
pub same_loadable : (reading : Reading) (c : Committee) {bs cs : List Block} → WellStored bs → WellStored cs → ((x : Block) → x ∈ bs → author x < 128) →
    ((x : Block) → x ∈ cs → author x < 128)
    → SameBlocks bs cs → SameLoadable reading c bs cs
same_loadable reading c v w f g e =
    let finals = final_in_order reading c v w f g e in
    record { answer = same_answer reading reading c v w e finals; list = same_lists reading reading c v w e finals }
