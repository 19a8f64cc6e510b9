-- What the question answers, refusal by refusal. Assumes nothing.
use mathlib.Core.Path.{◌≡◌, sym, subst, ◌∙◌}
use mathlib.Core.Logic.{◌⊎◌, inl, inr}
use mathlib.Core.Bool.{true, false}
use mathlib.Core.List.{List, ◌++◌}
use Prim.Native.Nat.{ℕ, ◌*◌, ◌<◌, ◌≤◌}
use lib.ListN.{length, drop}
use borrow.Author.Tests.{lt-ltb, le-ltb}
use Rattle.base.specs.Lists.{all_of, holds}
use Rattle.base.specs.Le.{Bytes}
use Rattle.base.specs.Checks.{refusal, passes, refused, answered, checked}
use Rattle.base.proofs.Tests.{holds_or_not}
use Rattle.committee.specs.Committee.{Committee, broken}
use Rattle.store_spec.specs.Store.{store_in_order}
use Rattle.final_spec.specs.Finality.{blocks_of}
use Rattle.index_spec.specs.Index.{indexed, index_agrees}
use Rattle.index_list_spec.specs.Indexed.{indexed_checks}
use Rattle.index_list_spec.proofs.Asking.{refusal_broken, refusal_disordered, refusal_disagrees, refusal_none}
use Rattle.sorted_spec.specs.Sorted.{replies_after, sorted_locators, locators_of, asked, sorted_checks, answer_sorted}
use Rattle.sorted_step.specs.Step.{replies_words}

module _ (c : Committee) (s : Bytes) (ix : List ℕ) (bytes : Bytes) (out : List ℕ) where
  sorted_broken : broken c ≡ true → record { answer = refused 5; out = out } ≡ answer_sorted c s ix bytes out
  unfolding answer_sorted sorted_checks checked passes refusal all_of
  sorted_broken h = rw h

  module _ (b : broken c ≡ false) where
    sorted_disordered : store_in_order c s ≡ false → record { answer = refused 10; out = out } ≡ answer_sorted c s ix bytes out
    unfolding answer_sorted sorted_checks checked passes refusal all_of
    sorted_disordered h = rw (b, h)

    module _ (o : store_in_order c s ≡ true) where
      sorted_disagreeing : index_agrees (blocks_of s) ix ≡ false → record { answer = refused 54; out = out } ≡ answer_sorted c s ix bytes out
      unfolding answer_sorted sorted_checks checked passes refusal all_of
      sorted_disagreeing h = rw (b, o, h)

      module _ (a : index_agrees (blocks_of s) ix ≡ true) where
        pub sorted_unsorted : holds sorted_locators (locators_of bytes) ≡ false → record { answer = refused 62; out = out } ≡ answer_sorted c s ix bytes out
        unfolding answer_sorted sorted_checks checked passes refusal all_of
        sorted_unsorted h = rw (b, o, a, h)

        module _ (t : holds sorted_locators (locators_of bytes) ≡ true) where
          pub sorted_short : length out < 3 * length (asked bytes) → record { answer = refused 63; out = out } ≡ answer_sorted c s ix bytes out
          unfolding answer_sorted sorted_checks checked passes refusal all_of
          sorted_short h = rw (b, o, a, t, lt-ltb (length out) (3 * length (asked bytes)) h)

          pub sorted_asked : 3 * length (asked bytes) ≤ length out → (n : ℕ) (ws : List ℕ) → n ≡ length (asked bytes)
              → ws ≡ replies_words (replies_after c (asked bytes) (indexed (blocks_of s))) ++ drop (3 * length (asked bytes)) out
              → record { answer = answered n; out = ws } ≡ answer_sorted c s ix bytes out
          unfolding answer_sorted sorted_checks checked passes refusal all_of replies_words
          sorted_asked h n ws e f = rw (b, o, a, t, le-ltb (length out) (3 * length (asked bytes)) h, e, f)

  -- 5, 10, 54 are those of every question with the index
  module _ (n : ℕ) (e : n ≡ refusal (indexed_checks c s ix)) where
    numbered : (m : ℕ) → m ≡ refusal (indexed_checks c s ix) → record { answer = refused m; out = out } ≡ answer_sorted c s ix bytes out
        → record { answer = refused n; out = out } ≡ answer_sorted c s ix bytes out
    numbered m d h = subst (λ (i : ℕ). record { answer = refused i; out = out } ≡ answer_sorted c s ix bytes out) (d ∙ sym e) h

    pub sorted_refused : (n ≡ 0 → ⊥) → record { answer = refused n; out = out } ≡ answer_sorted c s ix bytes out
    sorted_refused f = go (holds_or_not (broken c)) (holds_or_not (store_in_order c s)) (holds_or_not (index_agrees (blocks_of s) ix))
      where
        go : (broken c ≡ true) ⊎ (broken c ≡ false) → (store_in_order c s ≡ true) ⊎ (store_in_order c s ≡ false) → (index_agrees (blocks_of s) ix ≡ true) ⊎
            (index_agrees (blocks_of s) ix ≡ false)
            → record { answer = refused n; out = out } ≡ answer_sorted c s ix bytes out
        go (inl b) o a = numbered 5 (refusal_broken c s ix b) (sorted_broken b)
        go (inr b) (inr o) a = numbered 10 (refusal_disordered c s ix b o) (sorted_disordered b o)
        go (inr b) (inl o) (inr a) = numbered 54 (refusal_disagrees c s ix b o a) (sorted_disagreeing b o a)
        go (inr b) (inl o) (inl a) = absurd (f (e ∙ sym (refusal_none c s ix b o a)))
