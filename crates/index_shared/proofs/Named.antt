-- Whom sources name together, where each names the same or nobody. Assumes nothing.
use mathlib.Core.Path.{◌≡◌, refl, sym, ap, subst, ◌∙◌}
use mathlib.Core.Logic.{◌⊎◌, inl, inr}
use mathlib.Core.List.{List}
use Prim.Native.Nat.{ℕ, zero, suc, ◌<◌}
use native.Mathlib.Omega.{arith}
use native.Mathlib.Decide.{dec_lt}
use Rattle.committee_set.specs.AuthoritySet.{AuthoritySet, nobody, united}
use Rattle.committee_set.proofs.Words.{nobody_united, united_nobody}
use Rattle.record_spec.specs.Reference.{TransactionLocator}
use Rattle.index_spec.specs.Runs.{voters_in}
use Rattle.index_spec.proofs.Sets.{united_self}
use Rattle.index_pieces.specs.Sources.{source, named_by}

-- these voters or nobody
abbrev pub Says : AuthoritySet → AuthoritySet → Type 0
Says v w = (w ≡ v) ⊎ (w ≡ nobody)

module _ (v a b : AuthoritySet) where
  both_say : a ≡ v → Says v b → united a b ≡ v
  both_say e (inl f) = ap (united a) f ∙ ap (λ (w : AuthoritySet). united w v) e ∙ united_self v
  both_say e (inr f) = ap (united a) f ∙ united_nobody a ∙ e

  second_says : Says v a → b ≡ v → united a b ≡ v
  second_says (inl e) f = both_say e (inl f)
  second_says (inr e) f = ap (λ (w : AuthoritySet). united w b) e ∙ nobody_united b ∙ f

  says_both : Says v a → Says v b → Says v (united a b)
  says_both (inl e) f = inl (both_say e f)
  says_both (inr e) f = subst (Says v) (sym (ap (λ (w : AuthoritySet). united w b) e ∙ nobody_united b)) f

module _ (ix cs : List ℕ) (l : TransactionLocator) (v : AuthoritySet) where
  says_named : (n : ℕ) → ((j : ℕ) → j < n → Says v (voters_in (source ix cs j) l)) → Says v (named_by ix cs n l)
  unfolding named_by
  says_named zero h = inr refl
  says_named (suc n) h = says_both v (named_by ix cs n l) (voters_in (source ix cs n) l) (says_named n (λ j k. h j (omega arith))) (h n (omega arith))

  -- one of them names somebody
  pub one_named : (n lead : ℕ) → lead < n → ((j : ℕ) → j < n → Says v (voters_in (source ix cs j) l)) → voters_in (source ix cs lead) l ≡ v → named_by ix cs n
      l ≡ v
  unfolding named_by
  one_named zero lead m h e = absurd (omega arith)
  one_named (suc n) lead m h e = go (dec_lt lead n) (λ k. one_named n lead k (λ j i. h j (omega arith)) e)
    where
      go : Dec (lead < n) → (lead < n → named_by ix cs n l ≡ v) → united (named_by ix cs n l) (voters_in (source ix cs n) l) ≡ v
      go (yes k) f = both_say v (named_by ix cs n l) (voters_in (source ix cs n) l) (f k) (h n (omega arith))
      go (no k) f =
          let s : lead ≡ n = omega arith in
          second_says v (named_by ix cs n l) (voters_in (source ix cs n) l) (says_named n (λ j i. h j (omega arith)))
          (subst (λ (i : ℕ). voters_in (source ix cs i) l ≡ v) s e)
