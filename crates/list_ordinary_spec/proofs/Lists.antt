-- The ordinary list: exactly the final stored shares, ascending, the same for every order of arrival. Assumes nothing.
use mathlib.Core.Path.{◌≡◌, ap₂}
use mathlib.Core.Bool.{Bool, true}
use mathlib.Core.List.{List}
use Rattle.base.specs.Lists.{keep, ◌∈◌}
use Rattle.base.proofs.Tests.{same_test}
use Rattle.base.proofs.Members.{in_keep, keep_in}
use Rattle.committee.specs.Committee.{Committee}
use Rattle.record_spec.specs.Reference.{TransactionLocator}
use Rattle.record_spec.specs.Block.{Block}
use Rattle.store_spec.proofs.Stored.{WellStored}
use Rattle.final_spec.specs.Voters.{is_final}
use Rattle.final_spec.specs.NextFinal.{final_list}
use Rattle.final_spec.proofs.LeastOf.{least_once}
use Rattle.final_spec.proofs.Finals.{is_final_lem, final_is, is_final_order}
use Rattle.final_spec.proofs.FinalList.{Ascending, ascending_unique, keep_ascending, final_list_ascending, final_list_in, final_list_order}
use Rattle.store_spec.specs.Shares.{is_stored_share}
use Rattle.store_spec.proofs.Shares.{stored_share, share_stored}
use Rattle.list_ordinary_spec.specs.Shares.{stored_shares}
use Rattle.list_ordinary_spec.specs.FinalShares.{is_final_share, final_shares}
use Rattle.list_ordinary_spec.specs.Claims.{AllShares, Exactly, SameBlocks, SameShares}
use Rattle.list_ordinary_spec.proofs.Orders.{ascending_pairwise, ascending_once}
use Rattle.list_ordinary_spec.proofs.Shares.{share_moved, all_ascending, all_in, in_all_shares}
use Rattle.list_ordinary_spec.proofs.Least.{share_of, final_of, final_share, least_final_share_lem}

pub all_shares_lem : (bs : List Block) → AllShares bs
all_shares_lem bs =
    record {
      exactly = λ l. (all_in bs l, in_all_shares bs l);
      ascending = ascending_pairwise (all_ascending bs);
      once = ascending_once (all_ascending bs);
    }

-- ---- exactly the final stored shares

module _ (c : Committee) (bs : List Block) where
  pub final_shares_ascending : Ascending (final_shares c bs)
  unfolding final_shares
  final_shares_ascending = keep_ascending (is_stored_share bs) (final_list_ascending c bs)

  pub final_shares_in : (l : TransactionLocator) → l ∈ final_shares c bs → is_final_share c bs l ≡ true
  unfolding final_shares
  final_shares_in l m = let k = keep_in (is_stored_share bs) (final_list c bs) m in final_share c bs l k.1 ((final_list_in c bs l).0 k.0)

  pub in_final_shares : (l : TransactionLocator) → is_final_share c bs l ≡ true → l ∈ final_shares c bs
  unfolding final_shares
  in_final_shares l h = in_keep (is_stored_share bs) (final_list c bs) ((final_list_in c bs l).1 (final_of c bs l h)) (share_of c bs l h)

  pub final_shares_through : final_shares c bs ≡ keep (is_final c bs) (stored_shares bs)
  final_shares_through =
      ascending_unique final_shares_ascending (keep_ascending (is_final c bs) (all_ascending bs))
      (λ l m. let h = final_shares_in l m in in_keep (is_final c bs) (stored_shares bs) (in_all_shares bs l (stored_share bs l (share_of c bs l h)))
      (final_of c bs l h))
      (λ l m. let k = keep_in (is_final c bs) (stored_shares bs) m in in_final_shares l (final_share c bs l (share_stored bs l (all_in bs l k.0)) k.1))

pub exactly_finals : (c : Committee) {bs : List Block} → WellStored bs → Exactly c bs
exactly_finals c {bs} w =
    record {
      exactly = λ l. (
        λ m. let h = final_shares_in c bs l m in (stored_share bs l (share_of c bs l h), final_is c w l (final_of c bs l h)),
        λ h. in_final_shares c bs l (final_share c bs l (share_stored bs l h.0) (is_final_lem c w l h.1)),
      );
      ascending = ascending_pairwise (final_shares_ascending c bs);
      once = ascending_once (final_shares_ascending c bs);
      through = final_shares_through c bs;
    }

-- ---- the same for every order of arrival

pub same_stored : {bs cs : List Block} → SameBlocks bs cs → (l : TransactionLocator) → is_stored_share bs l ≡ is_stored_share cs l
same_stored {bs} {cs} e l =
    same_test (is_stored_share bs l) (is_stored_share cs l)
    (λ h. share_stored cs l (share_moved (λ b. (e b).0) l (stored_share bs l h)))
    (λ h. share_stored bs l (share_moved (λ b. (e b).1) l (stored_share cs l h)))

pub same_all_shares : {bs cs : List Block} → SameBlocks bs cs → stored_shares bs ≡ stored_shares cs
same_all_shares {bs} {cs} e =
    ascending_unique (all_ascending bs) (all_ascending cs)
    (λ l m. in_all_shares cs l (share_moved (λ b. (e b).0) l (all_in bs l m)))
    (λ l m. in_all_shares bs l (share_moved (λ b. (e b).1) l (all_in cs l m)))

module _ (c : Committee) {bs cs : List Block} (v : WellStored bs) (w : WellStored cs) (e : SameBlocks bs cs) where
  same_final_shares : final_shares c bs ≡ final_shares c cs
  unfolding final_shares
  same_final_shares =
      ap₂ (λ (p : TransactionLocator → Bool) (ls : List TransactionLocator). keep p ls) (λ i l. same_stored e l i) (final_list_order c v w e)

  same_final_share : (l : TransactionLocator) → is_final_share c bs l ≡ is_final_share c cs l
  unfolding is_final_share
  same_final_share l = rw (same_stored e l, is_final_order c v w e l)

  pub same_shares_lem : SameShares c bs cs
  same_shares_lem =
      record {
        shares = same_all_shares e;
        test = same_stored e;
        final = same_final_shares;
        next = λ after. least_once (is_final_share c bs) (is_final_share c cs) same_final_share after (least_final_share_lem c bs after)
            (least_final_share_lem c cs after);
      }
