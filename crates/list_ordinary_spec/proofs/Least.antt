-- The least final stored share after a locator. Assumes nothing.
use mathlib.Core.Path.{◌≡◌}
use mathlib.Core.Logic.{◌⊎◌, inl, inr}
use mathlib.Core.Bool.{Bool, true, false, ◌&&◌}
use mathlib.Core.List.{List, map, flatten}
use mathlib.Core.Option.{Option, none, some}
use Rattle.base.specs.Lists.{keep, ◌∈◌}
use Rattle.base.proofs.Tests.{and_both, and_left, and_right, fails, not_both, holds_or_not}
use Rattle.base.proofs.Members.{in_keep, keep_in}
use Rattle.committee.specs.Committee.{Committee}
use Rattle.record_spec.specs.Reference.{TransactionLocator, locator_before}
use Rattle.record_spec.specs.Block.{Block}
use Rattle.record_spec.proofs.References.{locator_total}
use Rattle.final_spec.specs.Voters.{is_final}
use Rattle.final_spec.specs.NextFinal.{is_after, least, nothing, LeastFinal}
use Rattle.final_spec.proofs.Least.{Least, one_of, no_one, least_locator_lem}
use Rattle.final_spec.proofs.Asked.{later_after}
use Rattle.store_spec.specs.Shares.{is_stored_share}
use Rattle.store_spec.proofs.Shares.{stored_share, share_stored}
use Rattle.list_ordinary_spec.specs.Shares.{shares_of}
use Rattle.list_ordinary_spec.specs.FinalShares.{is_final_share, LeastFinalShare, least_final_share}
use Rattle.list_ordinary_spec.proofs.Shares.{gathered_in, in_gathered}

module _ (c : Committee) (bs : List Block) where
  pub share_of : (l : TransactionLocator) → is_final_share c bs l ≡ true → is_stored_share bs l ≡ true
  unfolding is_final_share
  share_of l h = and_left _ _ h

  pub final_of : (l : TransactionLocator) → is_final_share c bs l ≡ true → is_final c bs l ≡ true
  unfolding is_final_share
  final_of l h = and_right (is_stored_share bs l) _ h

  pub final_share : (l : TransactionLocator) → is_stored_share bs l ≡ true → is_final c bs l ≡ true → is_final_share c bs l ≡ true
  unfolding is_final_share
  final_share l h k = and_both _ _ h k

  module _ (after : Option TransactionLocator) where
    passing : TransactionLocator → Bool
    passing l = is_after after l && is_final c bs l

    in_passing : (l : TransactionLocator) → is_final_share c bs l ≡ true → is_after after l ≡ true → l ∈ keep passing (flatten (map shares_of bs))
    unfolding passing
    in_passing l f a = in_keep passing (flatten (map shares_of bs)) (in_gathered bs l (stored_share bs l (share_of l f))) (and_both _ _ a (final_of l f))

    passing_in : (l : TransactionLocator) → l ∈ keep passing (flatten (map shares_of bs)) → (is_final_share c bs l ≡ true) × (is_after after l ≡ true)
    unfolding passing
    passing_in l m =
        let k = keep_in passing (flatten (map shares_of bs)) m in
        (final_share l (share_stored bs l (gathered_in bs l k.0)) (and_right (is_after after l) _ k.1), and_left _ _ k.1)

    least_of : {o : Option TransactionLocator} → Least (keep passing (flatten (map shares_of bs))) o → LeastFinalShare c bs after o
    least_of (one_of l m f) = let k = passing_in l m in least l k.0 k.1 (λ x h a. f x (in_passing x h a))
    least_of (no_one f) = nothing (λ m a. fails (is_final_share c bs m) (λ h. f m (in_passing m h a)))

    -- what is computed is the least
    pub least_final_share_lem : LeastFinalShare c bs after (least_final_share c bs after)
    unfolding least_final_share passing
    least_final_share_lem = least_of (least_locator_lem (keep passing (flatten (map shares_of bs))))

    -- ---- from the least final locator: where it is a stored share it is the one; where not, it is passed over

    pub none_wide : LeastFinal c bs after none → LeastFinalShare c bs after none
    none_wide (nothing g) = nothing (λ m a. fails (is_final_share c bs m) (λ h. not_both (final_of m h) (g m a)))

    pub share_wide : (l : TransactionLocator) → LeastFinal c bs after (some l) → is_stored_share bs l ≡ true → LeastFinalShare c bs after (some l)
    share_wide l (least x f a g) s = least l (final_share l s f) a (λ m h b. g m (final_of m h) b)

    module _ (l : TransactionLocator) (w : LeastFinal c bs after (some l)) (no_share : is_stored_share bs l ≡ false) where
      -- a final share after the given locator comes after l
      beyond : LeastFinal c bs after (some l) → (m : TransactionLocator) → is_final_share c bs m ≡ true → is_after after m ≡ true → locator_before l m ≡ true
      beyond (least x f a g) m h b = split (holds_or_not (locator_before l m))
        where
          split : (locator_before l m ≡ true) ⊎ (locator_before l m ≡ false) → locator_before l m ≡ true
          split (inl e) = e
          split (inr e) = let same : l ≡ m = locator_total l m e (g m (final_of m h) b) in absurd (not_both (share_of m h) (rw same at no_share))

      itself_after : LeastFinal c bs after (some l) → is_after after l ≡ true
      itself_after (least x f a g) = a

      pub passed_over : {o : Option TransactionLocator} → LeastFinalShare c bs (some l) o → LeastFinalShare c bs after o
      unfolding is_after
      passed_over (least x f a g) = least x f (later_after after l x (itself_after w) a) (λ m h b. g m h (beyond w m h b))
      passed_over (nothing g) = nothing (λ m b. fails (is_final_share c bs m) (λ h. not_both h (g m (beyond w m h b))))
