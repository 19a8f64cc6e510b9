-- What a list with the index answers, refusal by refusal. Assumes nothing.
use mathlib.Core.Path.{◌≡◌, sym}
use mathlib.Core.Logic.{◌⊎◌, inl, inr}
use mathlib.Core.Bool.{true, false}
use mathlib.Core.List.{List}
use mathlib.Core.Option.{Option}
use Prim.Native.Nat.{ℕ}
use Rattle.base.specs.Lists.{all_of}
use Rattle.base.specs.Le.{Bytes}
use Rattle.base.specs.Checks.{refusal, passes, refused, checked}
use Rattle.base.proofs.Tests.{holds_or_not, not_both}
use Rattle.committee.specs.Committee.{Committee, broken}
use Rattle.record_spec.specs.Reference.{TransactionLocator}
use Rattle.store_spec.specs.Store.{store_in_order}
use Rattle.final_spec.specs.Finality.{blocks_of}
use Rattle.final_spec.specs.NextFinal.{next_final_checks}
use Rattle.list_stretches_spec.specs.Stretches.{Listing}
use Rattle.list_stretches_spec.specs.Bulk.{list_stretches}
use Rattle.index_spec.specs.Index.{index_agrees}
use Rattle.index_list_spec.specs.Indexed.{indexed_checks, list_stretches_indexed}

-- the refusal alone
module _ (c : Committee) (s : Bytes) (ix : List ℕ) where
  pub refusal_broken : broken c ≡ true → 5 ≡ refusal (indexed_checks c s ix)
  unfolding indexed_checks next_final_checks refusal
  refusal_broken b = rw b

  module _ (b : broken c ≡ false) where
    pub refusal_disordered : store_in_order c s ≡ false → 10 ≡ refusal (indexed_checks c s ix)
    unfolding indexed_checks next_final_checks refusal
    refusal_disordered o = rw (b, o)

    module _ (o : store_in_order c s ≡ true) where
      pub refusal_disagrees : index_agrees (blocks_of s) ix ≡ false → 54 ≡ refusal (indexed_checks c s ix)
      unfolding indexed_checks next_final_checks refusal
      refusal_disagrees h = rw (b, o, h)

      pub refusal_none : index_agrees (blocks_of s) ix ≡ true → 0 ≡ refusal (indexed_checks c s ix)
      unfolding indexed_checks next_final_checks refusal
      refusal_none h = rw (b, o, h)

module _ (c : Committee) (s : Bytes) (ix : List ℕ) (k : Listing) (out : Bytes) (after : Option TransactionLocator) where
  pub indexed_broken : broken c ≡ true → record { answer = refused 5; out = out } ≡ list_stretches_indexed c s ix k out after
  unfolding list_stretches_indexed indexed_checks next_final_checks checked passes refusal all_of
  indexed_broken b = rw b

  module _ (b : broken c ≡ false) where
    pub indexed_disordered : store_in_order c s ≡ false → record { answer = refused 10; out = out } ≡ list_stretches_indexed c s ix k out after
    unfolding list_stretches_indexed indexed_checks next_final_checks checked passes refusal all_of
    indexed_disordered o = rw (b, o)

    module _ (o : store_in_order c s ≡ true) where
      pub indexed_disagrees : index_agrees (blocks_of s) ix ≡ false → record { answer = refused 54; out = out } ≡ list_stretches_indexed c s ix k out after
      unfolding list_stretches_indexed indexed_checks next_final_checks checked passes refusal all_of
      indexed_disagrees h = rw (b, o, h)

  -- ---- beside the list without it

  module _ (agrees : index_agrees (blocks_of s) ix ≡ true) where
    pub same_list_lem : list_stretches_indexed c s ix k out after ≡ list_stretches c s k out after
    unfolding list_stretches_indexed list_stretches indexed_checks next_final_checks checked passes refusal all_of
    same_list_lem = go (holds_or_not (broken c)) (holds_or_not (store_in_order c s))
      where
        go : (broken c ≡ true) ⊎ (broken c ≡ false) → (store_in_order c s ≡ true) ⊎ (store_in_order c s ≡ false) → list_stretches_indexed c s ix k out after ≡
            list_stretches c s k out after
        go (inl b) o = rw b
        go (inr b) (inl o) = rw (b, o, agrees)
        go (inr b) (inr o) = rw (b, o)

  pub same_refusal : passes (next_final_checks c s) ≡ false → list_stretches_indexed c s ix k out after ≡ list_stretches c s k out after
  unfolding list_stretches_indexed list_stretches indexed_checks next_final_checks checked passes refusal all_of
  same_refusal h = go (holds_or_not (broken c)) (holds_or_not (store_in_order c s))
    where
      go : (broken c ≡ true) ⊎ (broken c ≡ false) → (store_in_order c s ≡ true) ⊎ (store_in_order c s ≡ false) → list_stretches_indexed c s ix k out after ≡
          list_stretches c s k out after
      go (inl b) o = rw b
      go (inr b) (inl o) = let t : passes (next_final_checks c s) ≡ true = rw (b, o) in absurd (not_both t h)
      go (inr b) (inr o) = rw (b, o)

  pub fifty_four : passes (next_final_checks c s) ≡ true → index_agrees (blocks_of s) ix ≡ false → list_stretches_indexed c s ix k out after ≡ record
      { answer = refused 54; out = out }
  unfolding next_final_checks passes all_of
  fifty_four h d = go (holds_or_not (broken c)) (holds_or_not (store_in_order c s))
    where
      go : (broken c ≡ true) ⊎ (broken c ≡ false) → (store_in_order c s ≡ true) ⊎ (store_in_order c s ≡ false) → list_stretches_indexed c s ix k out after
          ≡ record
          { answer = refused 54; out = out }
      go (inl b) o = let t : passes (next_final_checks c s) ≡ false = rw b in absurd (not_both h t)
      go (inr b) (inl o) = sym (indexed_disagrees b o d)
      go (inr b) (inr o) = let t : passes (next_final_checks c s) ≡ false = rw (b, o) in absurd (not_both h t)
