-- Going through the stored shares in ascending order. Assumes nothing.
use mathlib.Core.Path.{◌≡◌, refl, sym, ap, subst, ◌∙◌}
use mathlib.Core.Bool.{Bool, true, false}
use mathlib.Core.List.{List, [], ◌∷◌, ◌++◌, append_assoc, append-nil}
use Prim.Native.Nat.{◌<◌}
use Rattle.base.specs.Lists.{pick, any_of, keep, ◌∈◌}
use Rattle.base.proofs.Tests.{same_test}
use Rattle.base.proofs.Lists.{keep_append}
use Rattle.base.proofs.Members.{any_in, in_any, in_keep, keep_in}
use Rattle.committee.specs.Committee.{Committee}
use Rattle.record_spec.specs.Reference.{TransactionLocator, same_locator}
use Rattle.record_spec.specs.Block.{Block}
use Rattle.record_spec.proofs.References.{locator_same, same_locator_lem, lower_round}
use Rattle.store_spec.proofs.Stored.{WellStored}
use Rattle.final_spec.proofs.FinalList.{Ascending, ascending_unique, keep_ascending}
use Rattle.final_readings_spec.specs.Readings.{Reading}
use Rattle.list_ordinary_spec.specs.Shares.{stored_shares}
use Rattle.list_ordinary_spec.proofs.Orders.{stands_before}
use Rattle.list_ordinary_spec.proofs.Shares.{all_ascending, in_all_shares}
use Rattle.list_readings_spec.specs.Lists.{all_listed}
use Rattle.list_readings_spec.proofs.Whole.{all_ascending as listed-ascending}
use Rattle.load_spec.specs.Loadable.{LoadableIn, is_loadable_in, loadable_list_in, loadable_after, found_on}
use Rattle.load_spec.specs.Claims.{Walked}
use Rattle.load_spec.proofs.Meaning.{loadable_stored, loadable_is, is_loadable, by_test}
use Rattle.load_spec.proofs.Lists.{list_in, in_list, list_ascending, list_meant}

-- through an ascending list that has every loadable share
module _ (reading : Reading) (c : Committee) {bs : List Block} (w : WellStored bs) (zs : List TransactionLocator) (up : Ascending zs)
    (every : (m : TransactionLocator) → LoadableIn reading c bs m → m ∈ zs) where
  -- those found before one say of each of a lower round whether it is loadable
  found_tells : (xs : List TransactionLocator) (l : TransactionLocator) (ys : List TransactionLocator) → zs ≡ xs ++ l ∷ ys
      → (m : TransactionLocator) → m.block.round < l.block.round → any_of (same_locator m) (keep (is_loadable_in reading c bs) xs)
      ≡ is_loadable_in reading c bs m
  found_tells xs l ys e m r =
      same_test (any_of (same_locator m) (keep (is_loadable_in reading c bs) xs)) (is_loadable_in reading c bs m)
      (λ h.
      let x = any_in (same_locator m) (keep (is_loadable_in reading c bs) xs) h in
      rw (locator_same m x.0 x.2) (keep_in (is_loadable_in reading c bs) xs x.1).1)
      (λ h.
      let there_is = subst (λ (ls : List TransactionLocator). m ∈ ls) e (every m (loadable_is reading c w m h)) in
      let i = stands_before xs l ys (subst Ascending e up) m there_is (lower_round m l r) in
      in_any (same_locator m) (in_keep (is_loadable_in reading c bs) xs i h) (same_locator_lem refl))

  stepwise : (xs : List TransactionLocator) (l : TransactionLocator) (ys : List TransactionLocator) → zs ≡ xs ++ l ∷ ys
      → is_loadable_in reading c bs l ≡ loadable_after reading c bs (keep (is_loadable_in reading c bs) xs) l
  unfolding loadable_after
  stepwise xs l ys e = by_test reading c w (λ m. any_of (same_locator m) (keep (is_loadable_in reading c bs) xs)) l (found_tells xs l ys e)

  one_more : (xs : List TransactionLocator) (l : TransactionLocator) (t : Bool) → is_loadable_in reading c bs l ≡ t
      → pick t (keep (is_loadable_in reading c bs) xs ++ l ∷ []) (keep (is_loadable_in reading c bs) xs) ≡ keep (is_loadable_in reading c bs) (xs ++ l ∷ [])
  unfolding keep
  one_more xs l true e = sym (keep_append (is_loadable_in reading c bs) xs (l ∷ []) ∙ rw e)
  one_more xs l false e = sym (keep_append (is_loadable_in reading c bs) xs (l ∷ []) ∙ rw e (append-nil (keep (is_loadable_in reading c bs) xs)))

  found_from : (ys xs : List TransactionLocator) → zs ≡ xs ++ ys → found_on reading c bs (keep (is_loadable_in reading c bs) xs) ys ≡ keep
      (is_loadable_in reading c bs) (xs ++ ys)
  unfolding found_on
  found_from [] xs e = ap (λ (ls : List TransactionLocator). keep (is_loadable_in reading c bs) ls) (sym (append-nil xs))
  found_from (l ∷ ys) xs e =
      let same : xs ++ l ∷ ys ≡ (xs ++ l ∷ []) ++ ys = sym (append_assoc xs (l ∷ []) ys) in
      let next : pick (loadable_after reading c bs (keep (is_loadable_in reading c bs) xs) l) (keep (is_loadable_in reading c bs) xs ++ l ∷ [])
      (keep (is_loadable_in reading c bs) xs) ≡ keep (is_loadable_in reading c bs) (xs ++ l ∷ []) =
      one_more xs l (loadable_after reading c bs (keep (is_loadable_in reading c bs) xs) l) (stepwise xs l ys e) in
      ap (λ (found : List TransactionLocator). found_on reading c bs found ys) next
      ∙ found_from ys (xs ++ l ∷ []) (e ∙ same)
      ∙ ap (λ (ls : List TransactionLocator). keep (is_loadable_in reading c bs) ls) (sym same)

  -- and those found in the end are all of them
  kept_all : keep (is_loadable_in reading c bs) zs ≡ loadable_list_in reading c bs
  kept_all =
      ascending_unique (keep_ascending (is_loadable_in reading c bs) up) (list_ascending reading c w)
      (λ l m. in_list reading c w l (loadable_is reading c w l (keep_in (is_loadable_in reading c bs) zs m).1))
      (λ l m. let x = list_in reading c w l m in in_keep (is_loadable_in reading c bs) zs (every l x) (is_loadable reading c w l x))

  found_all : found_on reading c bs [] zs ≡ loadable_list_in reading c bs
  unfolding keep
  found_all = found_from zs [] refl ∙ kept_all

  pub walked : Walked reading c bs zs
  walked = record { step = stepwise; found = found_all; kept = kept_all }

module _ (reading : Reading) (c : Committee) {bs : List Block} (w : WellStored bs) where
  pub walked_shares_lem : Walked reading c bs (stored_shares bs)
  walked_shares_lem = walked reading c w (stored_shares bs) (all_ascending bs) (λ m x. in_all_shares bs m (loadable_stored x))

  pub walked_finals_lem : Walked reading c bs (all_listed true reading c bs)
  walked_finals_lem = walked reading c w (all_listed true reading c bs) (listed-ascending true reading c bs)
      (λ m x. (list_meant reading c w).final m (in_list reading c w m x))
