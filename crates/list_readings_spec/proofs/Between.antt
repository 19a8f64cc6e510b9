-- Between the edges of votes and rejects nothing changes in either list. Assumes nothing.
use mathlib.Core.Path.{◌≡◌, refl, sym, ap, ap₂, subst, ◌∙◌}
use mathlib.Core.Logic.{◌⊎◌, inl, inr}
use mathlib.Core.Bool.{Bool, true, false, not, ◌&&◌}
use mathlib.Core.List.{List, ◌++◌, map}
use Prim.Native.Nat.{ℕ, ◌+◌, ◌≤◌, ◌<◌}
use native.Mathlib.Omega.{arith}
use Rattle.base.specs.Lists.{keep, ◌∈◌}
use Rattle.base.proofs.Tests.{same_test}
use Rattle.base.proofs.Members.{in_left, in_right}
use Rattle.committee.specs.Committee.{Committee, is_quorum}
use Rattle.committee_set.specs.AuthoritySet.{AuthoritySet, nobody, set_of, stake_of, without}
use Rattle.record_spec.specs.Reference.{BlockReference, TransactionLocator, TransactionLocatorRange, locator}
use Rattle.record_spec.specs.Block.{Block, author, spans}
use Rattle.final_spec.specs.Voters.{votes_for, own_vote, certifies, certifiers, is_final}
use Rattle.final_spec.proofs.Spoken.{spoken_nobody}
use Rattle.list_stretches_spec.specs.Stretches.{edges_by}
use Rattle.list_stretches_spec.specs.Claims.{SameBefore, Edges}
use Rattle.list_stretches_spec.proofs.Wide.{Telling, forth, back, wide_edges, by_spans}
use Rattle.final_readings_spec.specs.Rejecting.{rejects, rejecters}
use Rattle.final_readings_spec.specs.Readings.{Reading, old, withdrawing, voters_in, certifies_in, certifiers_in, is_final_in}
use Rattle.final_readings_spec.specs.NextFinal.{reject_edges}
use Rattle.final_readings_spec.proofs.FinalsIn.{certifies_in_alike}
use Rattle.final_readings_spec.proofs.Cutting.{rejects_between}
use Rattle.list_ordinary_spec.proofs.Ordinary.{Surrounding, same_share, around_one}
use Rattle.list_readings_spec.specs.Lists.{is_listed, list_edges, listing}

-- ---- where nobody votes, a reject cancels nothing

nobody_less : (w : AuthoritySet) → without nobody w ≡ nobody
unfolding without
nobody_less w = refl

pub no_voters : (reading : Reading) (bs : List Block) (l : TransactionLocator) → ((d : Block) → d ∈ bs → votes_for d l ≡ false) → (r : BlockReference) →
    voters_in reading bs l r ≡ nobody
unfolding voters_in own_vote
no_voters old bs l f r = spoken_nobody own_vote l bs (λ d m. rw (f d m)) r
no_voters withdrawing bs l f r = rw (spoken_nobody own_vote l bs (λ d m. rw (f d m)) r) (nobody_less (rejecters bs l r))

-- ---- between edges

-- the same blocks reject an offset and the one after it, or nobody votes for it: no cut of the new reading lies between them
abbrev pub NoCut : Reading → List Block → BlockReference → ℕ → Type 0
NoCut old bs r o = Unit {0}
NoCut withdrawing bs r o =
    ((d : Block) → d ∈ bs → rejects d (locator r (o + 1)) ≡ rejects d (locator r o))
    ⊎ ((d : Block) → d ∈ bs → votes_for d (locator r o) ≡ false)

module _ {f : Block → List TransactionLocatorRange} (told : Telling f) (bs : List Block) (r : BlockReference) (o : ℕ) (gap : o + 1 ∈ edges_by f bs r → ⊥) where
  pub votes_same : (d : Block) → d ∈ bs → votes_for d (locator r (o + 1)) ≡ votes_for d (locator r o)
  votes_same d m = same_test _ _ (back told bs r o gap d m) (forth told bs r o gap d m)

  module _ (c : Committee) where
    certifies_same : NoCut withdrawing bs r o → (b : Block) → certifies_in withdrawing c bs (locator r (o + 1)) b
        ≡ certifies_in withdrawing c bs (locator r o) b
    unfolding certifies_in
    certifies_same (inl same) b = certifies_in_alike withdrawing c bs (locator r (o + 1)) (locator r o) votes_same same b
    certifies_same (inr none) b =
        ap (λ (v : AuthoritySet). not b.marked && is_quorum c (stake_of c v))
        (no_voters withdrawing bs (locator r (o + 1)) (λ d m. votes_same d m ∙ none d m) b.reference ∙ sym
        (no_voters withdrawing bs (locator r o) none b.reference))

    -- what is final, and who certifies
    same_in : (reading : Reading) → NoCut reading bs r o
        → (is_final_in reading c bs (locator r (o + 1)) ≡ is_final_in reading c bs (locator r o))
        × ((b : Block) → b ∈ bs → certifies_in reading c bs (locator r (o + 1)) b ≡ certifies_in reading c bs (locator r o) b)
    unfolding is_final_in certifiers_in certifies_in voters_in is_final certifiers certifies
    same_in old t = let x = wide_edges told c bs r o gap in (x.shows, x.certifies)
    same_in withdrawing t = (λ i. is_quorum c (stake_of c (set_of (map author (keep (λ b. certifies_same t b i) bs)))), λ b m. certifies_same t b)

    listed_same : Surrounding f → (shared : Bool) (reading : Reading) → NoCut reading bs r o → SameBefore bs (listing shared reading c bs) r o
    unfolding listing is_listed
    listed_same round true reading t =
        let x = same_in reading t in
        record { shows = ap₂ {C = Bool} (λ u v. u && v) (same_share round bs r o gap) x.0; certifies = x.1 }
    listed_same round false reading t = let x = same_in reading t in record { shows = x.0; certifies = x.1 }

-- offsets that hold the edges of any ranges that tell votes and shares, and leave no cut between them, are edges of both lists
pub edges_told : {f : Block → List TransactionLocatorRange} → Telling f → Surrounding f → (shared : Bool) (reading : Reading) (c : Committee)
    (bs : List Block) (r : BlockReference) (es : List ℕ)
    → ((e : ℕ) → e ∈ edges_by f bs r → e ∈ es) → ((o : ℕ) → (o + 1 ∈ es → ⊥) → NoCut reading bs r o) → Edges bs (listing shared reading c bs) r es
edges_told told round shared reading c bs r es more quiet o gap = listed_same told bs r o (λ m. gap (more (o + 1) m)) c round shared reading (quiet o gap)

-- a rejected offset and the one after it are edges
no_cut : (bs : List Block) (r : BlockReference) (o : ℕ) → (o + 1 ∈ reject_edges bs r → ⊥) → NoCut withdrawing bs r o
unfolding locator
no_cut bs r o gap =
    inl (λ d m. sym (rejects_between bs (locator r o) (o + 1) (omega arith)
    (λ e k (i : o < e) (j : e ≤ o + 1). let z : e ≡ o + 1 = omega arith in gap (subst (λ (n : ℕ). n ∈ reject_edges bs r) z k)) d m))

pub list_edges_lem : (shared : Bool) (reading : Reading) (c : Committee) (bs : List Block) (r : BlockReference) → Edges bs (listing shared reading c bs) r
    (list_edges reading bs r)
unfolding list_edges
list_edges_lem shared old c bs r = edges_told by_spans around_one shared old c bs r (edges_by spans bs r) (λ e m. m) (λ o gap. tt)
list_edges_lem shared withdrawing c bs r =
    edges_told by_spans around_one shared withdrawing c bs r (edges_by spans bs r ++ reject_edges bs r) (λ e m. in_left (reject_edges bs r) m)
    (λ o gap. no_cut bs r o (λ m. gap (in_right (edges_by spans bs r) m)))
