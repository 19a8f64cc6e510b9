-- A run of a part lies inside votes of the blocks, so that its words fit. Assumes nothing.
use mathlib.Core.Path.{◌≡◌, refl, sym, subst, ◌∙◌}
use mathlib.Core.Logic.{◌⊎◌, inl, inr, ◌↔◌}
use mathlib.Core.Bool.{Bool, true, false}
use mathlib.Core.List.{List, [], ◌∷◌, map}
use Prim.Native.Nat.{ℕ, ◌≤◌, ◌<◌}
use native.Mathlib.Omega.{arith}
use Rattle.base.specs.Lists.{pick, any_of, count_from, ◌∈◌, here, there}
use Rattle.base.proofs.Tests.{holds_or_not, not_both, fails}
use Rattle.base.proofs.Members.{any_in, in_any, in_count_from}
use Rattle.committee.specs.Committee.{AuthorityIndex, Committee}
use Rattle.committee_set.specs.AuthoritySet.{AuthoritySet, nobody, member, inserted, united}
use Rattle.committee_set.proofs.Words.{Small, small_nobody, small_inserted, set_ext, united_nobody}
use Rattle.committee_set.proofs.Votes.{member_nobody}
use Rattle.record_spec.specs.Reference.{BlockReference, TransactionLocator, TransactionLocatorRange, locator, same_reference, locator_before}
use Rattle.record_spec.specs.Block.{Block, author, spans}
use Rattle.record_spec.proofs.References.{Precedes, by_block, by_offset, precedes, locator_total}
use Rattle.final_spec.specs.Voters.{votes_for, own_vote, unions, spoken, voters}
use Rattle.final_spec.specs.Ancestry.{Voter}
use Rattle.final_spec.specs.Claims.{Stored}
use Rattle.final_spec.proofs.Claimed.{well_stored, small_authors}
use Rattle.final_spec.proofs.Votes.{Spanned, spanned}
use Rattle.final_spec.proofs.Spoken.{spoken_small}
use Rattle.final_spec.proofs.Voters.{voters_iff}
use Rattle.index_spec.specs.Runs.{Run}
use Rattle.index_spec.specs.Part.{part_in}
use Rattle.index_spec.specs.Walk as walk
use Rattle.index_spec.proofs.Chain.{past_trans}
use Rattle.index_spec.proofs.Parts.{part_runs}

unions_nobody : (f : BlockReference → AuthoritySet) → ((i : BlockReference) → f i ≡ nobody) → (is : List BlockReference) → unions (map f is) ≡ nobody
unfolding unions
unions_nobody f h [] = refl
unions_nobody f h (i ∷ is) = rw (h i, unions_nobody f h is) (united_nobody nobody)

-- where no block votes, nobody is a voter
pub voters_none : (bs : List Block) (l : TransactionLocator) → ((b : Block) → b ∈ bs → votes_for b l ≡ false) → (r : BlockReference) → voters bs l r ≡ nobody
unfolding spoken own_vote
voters_none [] l h r = refl
voters_none (b ∷ older) l h r = go (same_reference b.reference r) (voters_none older l (λ d m. h d (there m)))
  where
    go : (t : Bool) → ((q : BlockReference) → voters older l q ≡ nobody)
        → pick t (united (pick (votes_for b l) (inserted nobody (author b)) nobody) (unions (map (voters older l) b.includes))) (voters older l r) ≡ nobody
    go true ih = rw (h b here, unions_nobody (voters older l) ih b.includes) (united_nobody nobody)
    go false ih = ih r

-- the voters among blocks of known authors fit two words
voters_small : (bs : List Block) → ((b : Block) → b ∈ bs → author b < 128) → (l : TransactionLocator) (r : BlockReference) → Small (voters bs l r)
unfolding own_vote
voters_small bs h l r = spoken_small own_vote bs l (λ b m. split b (h b m) (votes_for b l)) r
  where
    split : (b : Block) → author b < 128 → (t : Bool) → Small (pick t (inserted nobody (author b)) nobody)
    split b k true = small_inserted nobody (author b) k small_nobody
    split b k false = small_nobody

-- each locator of a run is voted for
pub run_span : (bs : List Block) (r : BlockReference) (x : Run) → x ∈ part_in bs r → (o : ℕ) → x.start ≤ o → o < x.end
    → (b : Block) × (b ∈ bs) × Spanned b (locator x.reference o)
run_span bs r x m o a b = go (holds_or_not (any_of (λ d. votes_for d l) bs))
  where
    l : TransactionLocator
    l = locator x.reference o

    go : (any_of (λ d. votes_for d l) bs ≡ true) ⊎ (any_of (λ d. votes_for d l) bs ≡ false) → (b : Block) × (b ∈ bs) × Spanned b l
    go (inl h) = let d = any_in (λ z. votes_for z l) bs h in (d.0, d.1, spanned d.0 l d.2)
    go (inr h) =
        let s = (part_runs bs r).stretches x m in
        absurd
        (s.voted
        (sym (s.told o a b) ∙ voters_none bs l (λ d n. fails (votes_for d l) (λ t. not_both (in_any (λ z. votes_for z l) n t) h)) r))

module _ (bs : List Block) (r : BlockReference) (x : Run) (m : x ∈ part_in bs r) where
  -- what holds of every block voted for holds of the run's
  pub run_reference : (P : BlockReference → Type 0) → ((b : Block) → b ∈ bs → (q : TransactionLocatorRange) → q ∈ spans b → P q.block) → P x.reference
  unfolding locator
  run_reference P h =
      let s = run_span bs r x m x.start (omega arith) ((part_runs bs r).stretches x m).full in
      subst P s.2.covering.of (h s.0 s.1 s.2.span s.2.stands)

  -- its voters fit two words
  pub run_small : ((b : Block) → b ∈ bs → author b < 128) → Small x.votes
  run_small h =
      let s = (part_runs bs r).stretches x m in
      subst Small (s.told x.start (omega arith) s.full) (voters_small bs h (locator x.reference x.start) r)

-- what a run has passed at a locator it has passed at every later one of a sorted list
pub past_sorted : (l m : TransactionLocator) → locator_before m l ≡ false → {q : BlockReference} {e : ℕ} → walk.Past q e l.block l.offset → walk.Past q e
    m.block m.offset
past_sorted l m h {q} {e} p = go (holds_or_not (locator_before l m))
  where
    on : Precedes l m → walk.Past q e m.block m.offset
    on (by_block k) = past_trans {f = l.offset} p (omega arith) (walk.by_block k)
    on (by_offset r k) = past_trans {f = l.offset} p (omega arith) (walk.by_offset r (omega arith))

    go : (locator_before l m ≡ true) ⊎ (locator_before l m ≡ false) → walk.Past q e m.block m.offset
    go (inl k) = on (precedes l m k)
    go (inr k) = subst (λ (z : TransactionLocator). walk.Past q e z.block z.offset) (locator_total l m k h) p

-- ---- the voters of a run are the voters

some_member : (v : AuthoritySet) → Small v → (v ≡ nobody → ⊥) → (a : AuthorityIndex) × (member v a ≡ true)
some_member v s n = go (holds_or_not (any_of (member v) (count_from 0 128)))
  where
    go : (any_of (member v) (count_from 0 128) ≡ true) ⊎ (any_of (member v) (count_from 0 128) ≡ false) → (a : AuthorityIndex) × (member v a ≡ true)
    go (inl h) = let a = any_in (member v) (count_from 0 128) h in (a.0, a.2)
    go (inr h) =
        absurd
        (n
        (set_ext v nobody s small_nobody (λ a k. fails (member v a) (λ t. not_both (in_any (member v) (in_count_from 0 128 a (omega arith) (omega arith)) t) h)
        ∙ sym (member_nobody a))))

module _ (c : Committee) (bs : List Block) (h : Stored c bs) (b : Block) (m : b ∈ bs) (x : Run) (n : x ∈ part_in bs b.reference) (o : ℕ)
    (from : x.start ≤ o) (below : o < x.end) where
  pub run_voters : (a : AuthorityIndex) → (member x.votes a ≡ true) ↔ Voter bs b (locator x.reference o) a
  run_voters a =
      subst (λ (v : AuthoritySet). (member v a ≡ true) ↔ Voter bs b (locator x.reference o) a)
      (((part_runs bs b.reference).stretches x n).told o from below)
      (voters_iff (well_stored c bs h) (locator x.reference o) a b m)

  pub at_least_one : (a : AuthorityIndex) × Voter bs b (locator x.reference o) a
  at_least_one =
      let a = some_member x.votes (run_small bs b.reference x n (small_authors c bs h)) ((part_runs bs b.reference).stretches x n).voted in
      (a.0, (run_voters a.0).0 a.1)
