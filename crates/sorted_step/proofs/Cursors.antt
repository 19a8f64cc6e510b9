-- Whom a part names at the locators of a sorted list, by one cursor over the runs and one over the list. Assumes nothing.
use mathlib.Core.Path.{◌≡◌, refl, ap, subst, ◌∙◌}
use mathlib.Core.List.{List, ◌∷◌}
use Prim.Native.Nat.{ℕ, ◌+◌, ◌*◌, ◌≤◌, ◌<◌}
use native.Mathlib.Omega.{arith}
use native.Mathlib.Decide.{ℕ_discrete}
use lib.ListN.{length, drop, drop_of_length-le}
use Rattle.base.specs.Le.{Bytes}
use Rattle.committee_set.specs.AuthoritySet.{AuthoritySet, nobody}
use Rattle.record_spec.specs.Reference.{TransactionLocator, locator}
use Rattle.record_reference_bytes.specs.Step.{locator_at}
use Rattle.index_spec.specs.Runs.{Run, voters_in}
use Rattle.index_spec.specs.Part.{RunsOf}
use Rattle.index_spec.specs.Walk.{Past, Place, beyond}
use Rattle.index_spec.proofs.Chain.{covered, Chain, link, Differs, past_head, nobody_before, at_head, chain_drop, passed_out}
use Rattle.index_spec.proofs.Relation.{runs_chain}
use Rattle.index_spec.proofs.Fitting.{past_sorted}
use Rattle.sorted_step.specs.Step.{Beside, Listed}
use Rattle.sorted_step.specs.declared.Side.TheVariants as side

-- the locator of an index
abbrev pub at : Bytes → ℕ → TransactionLocator
at bytes k = locator_at bytes (56 * k)

-- from the locator i on the first j runs name nobody
unfoldable pub Behind : List Run → Bytes → ℕ → ℕ → ℕ → Type 0
Behind xs bytes n i j = (k : ℕ) → i ≤ k → k < n → voters_in xs (at bytes k) ≡ voters_in (drop j xs) (at bytes k)

pub behind_start : (xs : List Run) (bytes : Bytes) (n : ℕ) → Behind xs bytes n 0 0
unfolding Behind
behind_start xs bytes n k h m = refl

pub behind_on : (xs : List Run) (bytes : Bytes) (n i j : ℕ) → Behind xs bytes n i j → Behind xs bytes n (i + 1) j
unfolding Behind
behind_on xs bytes n i j b k h m = b k (omega arith) m

module _ (xs : List Run) (bytes : Bytes) (n i j : ℕ) (b : Behind xs bytes n i j) where
  -- the next run is passed too
  pub behind_pass : (x : Run) (ls : List TransactionLocator) → Listed bytes ls → length ls ≡ n → drop j xs ≡ x ∷ drop (j + 1) xs
      → Beside x (at bytes i) side.Past → Behind xs bytes n i (j + 1)
  unfolding Behind Beside
  behind_pass x ls l e r p k h m = b k h m ∙ ap (λ (ys : List Run). voters_in ys (at bytes k)) r ∙ past_head x (drop (j + 1) xs) (at bytes k)
      (passed_out x (at bytes k) (later (ℕ_discrete i k)))
    where
      later : Dec (i ≡ k) → Past x.reference x.end (at bytes k).block (at bytes k).offset
      later (yes q) = subst (λ (z : ℕ). Past x.reference x.end (at bytes z).block (at bytes z).offset) q p
      later (no q) = past_sorted (at bytes i) (at bytes k) (l.sorted i k (omega arith) (omega arith)) p

  module _ (f : TransactionLocator → AuthoritySet) (rs : RunsOf f xs) (x : Run) (r : drop j xs ≡ x ∷ drop (j + 1) xs) (h : i < n) where
    rest : (q : Place) × Chain Differs q (x ∷ drop (j + 1) xs)
    rest = subst (λ (ys : List Run). (q : Place) × Chain Differs q ys) r (chain_drop j xs (runs_chain xs rs))

    -- in a run, its voters
    pub named_inside : Beside x (at bytes i) side.Inside → voters_in xs (at bytes i) ≡ x.votes
    unfolding Behind Beside
    named_inside k = b i (omega arith) h ∙ ap (λ (ys : List Run). voters_in ys (at bytes i)) r ∙ go rest.1
      where
        go : {q : Place} → Chain Differs q (x ∷ drop (j + 1) xs) → voters_in (x ∷ drop (j + 1) xs) (at bytes i) ≡ x.votes
        go (link a g d t) = at_head x (drop (j + 1) xs) t (at bytes i) (covered x (at bytes i) k)

    -- before it, nobody
    pub named_before : Beside x (at bytes i) side.Before → voters_in xs (at bytes i) ≡ nobody
    unfolding Behind Beside locator_at locator
    named_before k = b i (omega arith) h ∙ ap (λ (ys : List Run). voters_in ys (at bytes i)) r ∙ go rest.1
      where
        go : {q : Place} → Chain Differs q (x ∷ drop (j + 1) xs) → voters_in (x ∷ drop (j + 1) xs) (at bytes i) ≡ nobody
        go (link a g d t) = nobody_before (at bytes i).block (at bytes i).offset (x ∷ drop (j + 1) xs)
            (link {p = beyond (at bytes i).block ((at bytes i).offset + 1)} k g d t)

  -- past all of them, nobody
  pub named_end : length xs ≤ j → (k : ℕ) → i ≤ k → k < n → voters_in xs (at bytes k) ≡ nobody
  unfolding Behind voters_in
  named_end h k a m = b k a m ∙ ap (λ (ys : List Run). voters_in ys (at bytes k)) (drop_of_length-le xs h)
