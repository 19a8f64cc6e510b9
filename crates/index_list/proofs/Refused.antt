-- A list with the index that is refused before it begins, and one that is not. Assumes nothing.
use mathlib.Core.Path.{◌≡◌, sym, subst, ◌∙◌}
use mathlib.Core.Logic.{◌⊎◌, inl, inr}
use mathlib.Core.Bool.{true, false}
use mathlib.Core.List.{List}
use mathlib.Core.Option.{Option}
use Prim.Native.Nat.{ℕ}
use Rattle.base.specs.Le.{Bytes}
use Rattle.base.specs.Checks.{refusal, Answer, refused, answered}
use Rattle.base.proofs.Tests.{holds_or_not}
use Rattle.committee.specs.Committee.{Committee, broken}
use Rattle.record_spec.specs.Reference.{TransactionLocator}
use Rattle.store_spec.specs.Store.{store_in_order}
use Rattle.final_spec.specs.Finality.{blocks_of}
use Rattle.list_stretches_spec.specs.Stretches.{Listing, stretches}
use Rattle.list_stretches_spec.specs.Bulk.{Given, given_after, stretch_room, bytes_after}
use Rattle.index_spec.specs.Index.{index_agrees}
use Rattle.index_list_spec.specs.Indexed.{indexed_checks, list_stretches_indexed}
use Rattle.list_bulk.proofs.Asking.{bulk_asked}
use Rattle.index_list_spec.proofs.Asking.{refusal_broken, refusal_disordered, refusal_disagrees, refusal_none, indexed_broken, indexed_disordered}
use Rattle.index_list_spec.proofs.Asking.{indexed_disagrees, same_list_lem}

module _ (c : Committee) (s : Bytes) (ix : List ℕ) (k : Listing) (out : Bytes) (after : Option TransactionLocator) (n : ℕ)
    (e : n ≡ refusal (indexed_checks c s ix)) where
  numbered : (m : ℕ) → m ≡ refusal (indexed_checks c s ix) → record { answer = refused m; out = out } ≡ list_stretches_indexed c s ix k out after
      → record { answer = refused n; out = out } ≡ list_stretches_indexed c s ix k out after
  numbered m d h = subst (λ (i : ℕ). record { answer = refused i; out = out } ≡ list_stretches_indexed c s ix k out after) (d ∙ sym e) h

  pub indexed_refused : (n ≡ 0 → ⊥) → record { answer = refused n; out = out } ≡ list_stretches_indexed c s ix k out after
  indexed_refused f = go (holds_or_not (broken c)) (holds_or_not (store_in_order c s)) (holds_or_not (index_agrees (blocks_of s) ix))
    where
      go : (broken c ≡ true) ⊎ (broken c ≡ false) → (store_in_order c s ≡ true) ⊎ (store_in_order c s ≡ false) → (index_agrees (blocks_of s) ix ≡ true) ⊎
          (index_agrees (blocks_of s) ix ≡ false)
          → record { answer = refused n; out = out } ≡ list_stretches_indexed c s ix k out after
      go (inl b) o a = numbered 5 (refusal_broken c s ix b) (indexed_broken c s ix k out after b)
      go (inr b) (inr o) a = numbered 10 (refusal_disordered c s ix b o) (indexed_disordered c s ix k out after b o)
      go (inr b) (inl o) (inr a) = numbered 54 (refusal_disagrees c s ix b o a) (indexed_disagrees c s ix k out after b o a)
      go (inr b) (inl o) (inl a) = absurd (f (e ∙ sym (refusal_none c s ix b o a)))

-- where nothing is refused the answer is the list over the stored blocks
pub indexed_asked : (c : Committee) (s : Bytes) (ix : List ℕ) (k : Listing) (out : Bytes) (after : Option TransactionLocator)
    → broken c ≡ false → store_in_order c s ≡ true → index_agrees (blocks_of s) ix ≡ true → (a : Answer Given) (bytes : Bytes)
    → a ≡ answered (given_after k after (stretches c (blocks_of s) k (stretch_room out) after))
    → bytes ≡ bytes_after (stretches c (blocks_of s) k (stretch_room out) after) out
    → record { answer = a; out = bytes } ≡ list_stretches_indexed c s ix k out after
indexed_asked c s ix k out after b o g a bytes x y = bulk_asked c s k out after b o a bytes x y ∙ sym (same_list_lem c s ix k out after g)
