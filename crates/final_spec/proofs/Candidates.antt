-- The least final locator stands where a vote begins, or just after the given one. Assumes nothing.
use mathlib.Core.Path.{◌≡◌, refl, sym, ◌∙◌, subst}
use mathlib.Core.Bool.{true}
use mathlib.Core.List.{List, map, flatten}
use mathlib.Core.Option.{Option}
use Prim.Native.Nat.{ℕ, zero, suc, ◌≤◌}
use native.Mathlib.Nat.{suc_inj}
use native.Mathlib.Omega.{arith}
use native.Mathlib.Decide.{ℕ_discrete}
use Rattle.base.specs.Lists.{◌∈◌}
use Rattle.base.proofs.Members.{in_left, in_right, in_flatten, in_map}
use Rattle.committee.specs.Committee.{Committee}
use Rattle.record_spec.specs.Reference.{TransactionLocator, TransactionLocatorRange, locator}
use Rattle.record_spec.specs.Block.{Block, spans}
use Rattle.final_spec.specs.Voters.{votes_for, is_final}
use Rattle.final_spec.specs.NextFinal.{is_after, LeastFinal, just_after, candidates, least_final}
use Rattle.final_spec.proofs.Votes.{Covered, spanned, is_spanned}
use Rattle.final_spec.proofs.Growing.{VoteAmong, final_mono, final_votes}
use Rattle.final_spec.proofs.LeastOf.{after_below, JustBefore, least_among}

-- where the votes of a block begin
abbrev pub starts : Block → List TransactionLocator
starts b = map (λ r. locator r.block r.start) (spans b)

-- a vote for a locator begins there, or is one for the offset before too
pub data Begins (d : Block) (l : TransactionLocator) : Type 0 where
  starting : l ∈ starts d → Begins d l
  going_on : (o : ℕ) → suc o ≡ l.offset → votes_for d (locator l.block o) ≡ true → Begins d l

pub begins : (d : Block) (l : TransactionLocator) → votes_for d l ≡ true → Begins d l
unfolding locator
begins d l h = let v = spanned d l h in split v.span v.stands v.covering (ℕ_discrete v.span.start l.offset)
  where
    below : (r : TransactionLocatorRange) → r ∈ spans d → Covered r l → (n : ℕ) → l.offset ≡ n → (r.start ≡ l.offset → ⊥) → Begins d l
    below r m k zero e ne = absurd (ne (omega (arith, k.from)))
    below r m k (suc o) e ne =
        let near : r.start ≤ o = omega (arith, k.from, ne) in
        going_on o (sym e)
        (is_spanned d (locator l.block o) (record { span = r; stands = m; covering = record { of = k.of; from = near; below = omega (arith, k.below) } }))

    split : (r : TransactionLocatorRange) → r ∈ spans d → Covered r l → Dec (r.start ≡ l.offset) → Begins d l
    split r m k (yes e) =
        let f : r.block ≡ l.block = k.of in
        let own : locator r.block r.start ≡ l = λ i. record { block = f i; offset = e i } in
        starting (subst (λ (x : TransactionLocator). x ∈ starts d) own (in_map (λ (q : TransactionLocatorRange). locator q.block q.start) m))
    split r m k (no e) = below r m k l.offset refl e

-- where no vote begins at a locator that has one, every vote for it is one for the offset before
pub votes_below : (bs : List Block) (l : TransactionLocator) → ((d : Block) → d ∈ bs → l ∈ starts d → ⊥) → VoteAmong bs l
    → (o : ℕ) × (suc o ≡ l.offset) × ((d : Block) → d ∈ bs → votes_for d l ≡ true → votes_for d (locator l.block o) ≡ true)
votes_below bs l no_start v = at_offset l.offset refl
  where
    voted : (d : Block) (o : ℕ) → suc o ≡ l.offset → d ∈ bs → Begins d l → votes_for d (locator l.block o) ≡ true
    voted d o e m (starting k) = absurd (no_start d m k)
    voted d o e m (going_on p f u) = subst (λ (n : ℕ). votes_for d (locator l.block n) ≡ true) (suc_inj (f ∙ sym e)) u

    never : l.offset ≡ 0 → (d : Block) → d ∈ bs → Begins d l → ⊥
    never e d m (starting k) = no_start d m k
    never e d m (going_on p f u) = omega arith

    at_offset : (n : ℕ) → l.offset ≡ n → (o : ℕ) × (suc o ≡ l.offset) ×
        ((d : Block) → d ∈ bs → votes_for d l ≡ true → votes_for d (locator l.block o) ≡ true)
    at_offset zero e = absurd (never e v.block v.stands (begins v.block l v.votes))
    at_offset (suc o) e = (o, sym e, λ d m u. voted d o (sym e) m (begins d l u))

module _ (c : Committee) (bs : List Block) (after : Option TransactionLocator) where
  start_candidate : {d : Block} {l : TransactionLocator} → d ∈ bs → l ∈ starts d → l ∈ candidates bs after
  unfolding candidates
  start_candidate m k = in_right (just_after after) (in_flatten k (in_map starts m))

  just_candidate : {l : TransactionLocator} → l ∈ just_after after → l ∈ candidates bs after
  unfolding candidates
  just_candidate k = in_left (flatten (map starts bs)) k

  stepped : (l : TransactionLocator) → (l ∈ candidates bs after → ⊥) → is_final c bs l ≡ true → is_after after l ≡ true → JustBefore (is_final c bs) after l
  stepped l none_there f h =
      let r = votes_below bs l (λ d m k. none_there (start_candidate m k)) (final_votes c bs l f) in
      record {
        offset = r.0;
        next = r.1;
        holds = final_mono c bs l (locator l.block r.0) r.2 f;
        later = after_below after l r.0 r.1
            (λ k. none_there (just_candidate k)) h;
      }

  -- what is computed is the least final locator after the given one
  pub least_final_lem : LeastFinal c bs after (least_final c bs after)
  unfolding least_final
  least_final_lem = least_among (is_final c bs) after (candidates bs after) stepped
