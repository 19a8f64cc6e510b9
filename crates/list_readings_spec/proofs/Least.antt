-- The least locator that a list shows after a given one. Assumes nothing.
use mathlib.Core.Path.{◌≡◌, sym, ◌∙◌}
use mathlib.Core.Bool.{Bool, true, false, ◌&&◌}
use mathlib.Core.List.{List, map, flatten}
use mathlib.Core.Option.{Option}
use Rattle.base.specs.Lists.{keep, ◌∈◌}
use Rattle.base.proofs.Tests.{and_both, and_left, and_right, fails, not_both}
use Rattle.base.proofs.Members.{in_keep, keep_in}
use Rattle.committee.specs.Committee.{Committee}
use Rattle.record_spec.specs.Reference.{TransactionLocator, locator}
use Rattle.record_spec.specs.Block.{Block}
use Rattle.store_spec.specs.Shares.{is_stored_share}
use Rattle.store_spec.proofs.Shares.{stored_share, share_stored}
use Rattle.final_spec.specs.NextFinal.{is_after, LeastOf, least, nothing}
use Rattle.final_spec.proofs.Least.{Least, one_of, no_one, least_locator_lem}
use Rattle.list_stretches_spec.specs.Claims.{Lawful}
use Rattle.list_stretches_spec.proofs.Wide.{wide_lawful_lem}
use Rattle.final_readings_spec.specs.Readings.{Reading, is_final_in}
use Rattle.final_readings_spec.proofs.FinalsIn.{final_in_old}
use Rattle.final_readings_spec.proofs.CandidatesIn.{final_is_old, least_final_in_lem}
use Rattle.list_ordinary_spec.specs.Shares.{shares_of}
use Rattle.list_ordinary_spec.proofs.Shares.{gathered_in, in_gathered}
use Rattle.list_readings_spec.specs.Lists.{is_listed, least_listed, listing}
use Rattle.list_readings_spec.proofs.Between.{list_edges_lem}

-- what a list shows is final, and where it has to be a stored share it is one
pub listed_final : (shared : Bool) (reading : Reading) (c : Committee) (bs : List Block) (l : TransactionLocator) → is_listed shared reading c bs l ≡ true →
    is_final_in reading c bs l ≡ true
unfolding is_listed
listed_final true reading c bs l h = and_right (is_stored_share bs l) _ h
listed_final false reading c bs l h = h

-- ---- the ordinary list

module _ (reading : Reading) (c : Committee) (bs : List Block) (after : Option TransactionLocator) where
  passing : TransactionLocator → Bool
  passing l = is_after after l && is_final_in reading c bs l

  in_passing : (l : TransactionLocator) → is_listed true reading c bs l ≡ true → is_after after l ≡ true → l ∈ keep passing (flatten (map shares_of bs))
  unfolding passing is_listed
  in_passing l f a =
      in_keep passing (flatten (map shares_of bs)) (in_gathered bs l (stored_share bs l (and_left _ _ f)))
      (and_both _ _ a (and_right (is_stored_share bs l) _ f))

  passing_in : (l : TransactionLocator) → l ∈ keep passing (flatten (map shares_of bs)) → (is_listed true reading c bs l ≡ true) × (is_after after l ≡ true)
  unfolding passing is_listed
  passing_in l m =
      let k = keep_in passing (flatten (map shares_of bs)) m in
      (and_both _ _ (share_stored bs l (gathered_in bs l k.0)) (and_right (is_after after l) _ k.1), and_left _ _ k.1)

  least_share : {o : Option TransactionLocator} → Least (keep passing (flatten (map shares_of bs))) o → LeastOf (is_listed true reading c bs) after o
  least_share (one_of l m f) = let k = passing_in l m in least l k.0 k.1 (λ x h a. f x (in_passing x h a))
  least_share (no_one f) = nothing (λ m a. fails (is_listed true reading c bs m) (λ h. f m (in_passing m h a)))

-- ---- both

pub least_listed_lem : (shared : Bool) (reading : Reading) (c : Committee) (bs : List Block) (after : Option TransactionLocator) → LeastOf
    (is_listed shared reading c bs) after (least_listed shared reading c bs after)
unfolding least_listed is_listed passing
least_listed_lem true reading c bs after = least_share reading c bs after (least_locator_lem (keep (passing reading c bs after) (flatten (map shares_of bs))))
least_listed_lem false reading c bs after = least_final_in_lem reading c bs after

module _ (shared : Bool) (reading : Reading) (c : Committee) (bs : List Block) where
  pub lists_lawful : Lawful bs (listing shared reading c bs)
  unfolding listing
  lists_lawful =
      record {
        next = least_listed_lem shared reading c bs;
        edges = list_edges_lem shared reading c bs;
        bound = (wide_lawful_lem c bs).bound;
        bounded = λ r o h.
            fails (is_listed shared reading c bs (locator r o))
            (λ t. not_both (sym (final_is_old c bs (locator r o)) ∙ final_in_old reading c bs (locator r o)
            (listed_final shared reading c bs (locator r o) t)) ((wide_lawful_lem c bs).bounded r o h));
      }
