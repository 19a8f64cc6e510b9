-- Finality, in either reading, does not look at payloads. Assumes nothing.
use mathlib.Core.Path.{◌≡◌, refl, sym, ap, ap₂, ◌∙◌}
use mathlib.Core.Bool.{Bool, true, false, not, ◌&&◌}
use mathlib.Core.List.{List, [], ◌∷◌, ◌++◌, map, flatten, Option-to_list}
use Prim.Native.Nat.{ℕ, ◌+◌}
use Rattle.base.specs.Lists.{pick, any_of, keep}
use Rattle.committee.specs.Committee.{AuthorityIndex, Committee, is_quorum}
use Rattle.committee_set.specs.AuthoritySet.{AuthoritySet, nobody, inserted, united, set_of, stake_of, without}
use Rattle.record_spec.specs.Reference.{BlockReference, TransactionLocator, TransactionLocatorRange, locator, one_range, same_reference, same_locator, covers}
use Rattle.record_spec.specs.Reference.{locators}
use Rattle.record_spec.specs.Block.{Statement, share, accept, reject, vote_range, Block, author, is_share, voted_range, spans_from, spans}
use Rattle.final_spec.specs.Voters.{Speech, votes_for, own_vote, unions, spoken}
use Rattle.final_spec.specs.NextFinal.{ascending_locators}
use Rattle.final_readings_spec.specs.Rejecting.{rejected_in, rejections, rejects, own_reject}
use Rattle.final_readings_spec.specs.Readings.{Reading, old, withdrawing, voters_in, certifies_in, certifiers_in, is_final_in}
use Rattle.final_readings_spec.specs.NextFinal.{final_list_in}
use Rattle.load_spec.specs.Needs.{emptied, without_payloads}

-- the range of one statement
abbrev span : BlockReference → ℕ → Statement → List TransactionLocatorRange
span r o s = pick (is_share s) (one_range (locator r o) ∷ []) (Option-to_list (voted_range s))

same_span : (r : BlockReference) (o : ℕ) (s : Statement) → span r o (emptied s) ≡ span r o s
unfolding emptied is_share voted_range
same_span r o (share p) = refl
same_span r o (accept l) = refl
same_span r o (reject l other) = refl
same_span r o (vote_range q) = refl

spans_from_lem : (r : BlockReference) (o : ℕ) (ss : List Statement) → spans_from r o (map emptied ss) ≡ spans_from r o ss
unfolding spans_from
spans_from_lem r o [] = refl
spans_from_lem r o (s ∷ ss) = ap₂ (λ (xs ys : List TransactionLocatorRange). xs ++ ys) (same_span r o s) (spans_from_lem r (o + 1) ss)

pub same_spans : (b : Block) → spans (without_payloads b) ≡ spans b
unfolding spans without_payloads
same_spans b = spans_from_lem b.reference 0 b.statements

rejected_same : (s : Statement) → rejected_in (emptied s) ≡ rejected_in s
unfolding emptied rejected_in
rejected_same (share p) = refl
rejected_same (accept l) = refl
rejected_same (reject l other) = refl
rejected_same (vote_range q) = refl

pub rejected_all : (ss : List Statement) → flatten (map rejected_in (map emptied ss)) ≡ flatten (map rejected_in ss)
unfolding flatten
rejected_all [] = refl
rejected_all (s ∷ ss) = ap₂ (λ (xs ys : List TransactionLocator). xs ++ ys) (rejected_same s) (rejected_all ss)

module _ (l : TransactionLocator) where
  same_vote : (b : Block) → own_vote (without_payloads b) l ≡ own_vote b l
  unfolding own_vote votes_for without_payloads
  same_vote b = ap (λ (qs : List TransactionLocatorRange). pick (any_of (λ q. covers q l) qs) (inserted nobody (author b)) nobody) (same_spans b)

  same_reject : (b : Block) → own_reject (without_payloads b) l ≡ own_reject b l
  unfolding own_reject rejects rejections without_payloads
  same_reject b = ap (λ (ls : List TransactionLocator). pick (any_of (same_locator l) ls) (inserted nobody (author b)) nobody) (rejected_all b.statements)

  -- who speaks without payloads speaks with them
  same_spoken : (own : Speech) → ((b : Block) → own (without_payloads b) l ≡ own b l) → (bs : List Block) (r : BlockReference) → spoken own
      (map without_payloads bs) l r ≡ spoken own bs l r
  unfolding spoken without_payloads
  same_spoken own same-own [] r = refl
  same_spoken own same-own (b ∷ bs) r =
      ap₂ (λ (v : AuthoritySet) (f : BlockReference → AuthoritySet). pick (same_reference b.reference r) (united v (unions (map f b.includes))) (f r))
      (same-own b) (λ i q. same_spoken own same-own bs q i)

  pub same_voters_lem : (reading : Reading) (bs : List Block) (r : BlockReference) → voters_in reading (map without_payloads bs) l r ≡ voters_in reading bs l r
  unfolding voters_in
  same_voters_lem old bs r = same_spoken own_vote same_vote bs r
  same_voters_lem withdrawing bs r = ap₂ without (same_spoken own_vote same_vote bs r) (same_spoken own_reject same_reject bs r)

  module _ (reading : Reading) (c : Committee) (bs : List Block) where
    pub same_certifies : (b : Block) → certifies_in reading c (map without_payloads bs) l (without_payloads b) ≡ certifies_in reading c bs l b
    unfolding certifies_in without_payloads
    same_certifies b = ap (λ (v : AuthoritySet). not b.marked && is_quorum c (stake_of c v)) (same_voters_lem reading bs b.reference)

    kept_authors : (ds : List Block)
        → map author (keep (certifies_in reading c (map without_payloads bs) l) (map without_payloads ds)) ≡ map author (keep (certifies_in reading c bs l) ds)
    unfolding keep
    kept_authors [] = refl
    kept_authors (d ∷ ds) = rw (same_certifies d) (go (certifies_in reading c bs l d) (kept_authors ds))
      where
        go : (t : Bool) → map author (keep (certifies_in reading c (map without_payloads bs) l) (map without_payloads ds)) ≡ map author
            (keep (certifies_in reading c bs l) ds)
            → map author (pick t (without_payloads d ∷ keep (certifies_in reading c (map without_payloads bs) l) (map without_payloads ds))
            (keep (certifies_in reading c (map without_payloads bs) l) (map without_payloads ds)))
            ≡ map author (pick t (d ∷ keep (certifies_in reading c bs l) ds) (keep (certifies_in reading c bs l) ds))
        go true h = unfold without_payloads in ap {B = List AuthorityIndex} (λ xs. author d ∷ xs) h
        go false h = h

    pub same_final : is_final_in reading c (map without_payloads bs) l ≡ is_final_in reading c bs l
    unfolding is_final_in certifiers_in
    same_final = ap (λ (xs : List AuthorityIndex). is_quorum c (stake_of c (set_of xs))) (kept_authors bs)

same_voted : (bs : List Block) → flatten (map (λ b. flatten (map locators (spans b))) (map without_payloads bs)) ≡ flatten
    (map (λ b. flatten (map locators (spans b))) bs)
unfolding flatten
same_voted [] = refl
same_voted (b ∷ bs) = ap₂ (λ (qs : List TransactionLocatorRange) (ls : List TransactionLocator). flatten (map locators qs) ++ ls) (same_spans b) (same_voted bs)

same_list_lem : (reading : Reading) (c : Committee) (bs : List Block) → final_list_in reading c (map without_payloads bs) ≡ final_list_in reading c bs
unfolding final_list_in
same_list_lem reading c bs =
    ap₂ (λ (p : TransactionLocator → Bool) (ls : List TransactionLocator). keep p (ascending_locators ls)) (λ i l. same_final l reading c bs i) (same_voted bs)

pub unseen : (reading : Reading) (c : Committee) (bs cs : List Block) → map without_payloads bs ≡ map without_payloads cs
    → ((l : TransactionLocator) → is_final_in reading c bs l ≡ is_final_in reading c cs l) × (final_list_in reading c bs ≡ final_list_in reading c cs)
unseen reading c bs cs e = (
  λ l. sym (same_final l reading c bs) ∙ ap (λ (ds : List Block). is_final_in reading c ds l) e ∙ same_final l reading c cs,
  sym (same_list_lem reading c bs) ∙ ap (λ (ds : List Block). final_list_in reading c ds) e ∙ same_list_lem reading c cs,
)
