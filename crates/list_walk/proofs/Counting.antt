-- The voters that count, in either reading. Assumes nothing.
use mathlib.Core.Path.{◌≡◌, refl, sym, ap, subst, ◌∙◌}
use mathlib.Core.Bool.{true, false}
use mathlib.Core.List.{List}
use Prim.Native.Nat.{ℕ, ◌<◌}
use native.Mathlib.Omega.{arith}
use lib.Dec.{eqb}
use lib.ListN.{length, get_or}
use Rattle.base.specs.Lists.{◌∈◌}
use Rattle.base.specs.Le.{Bytes}
use Rattle.base.proofs.Le.{AllBytes}
use Rattle.base.proofs.Tests.{fails}
use Rattle.base.proofs.Places.{member_place}
use Rattle.committee_set.specs.AuthoritySet.{nobody, without}
use Rattle.record_spec.specs.Reference.{BlockReference, TransactionLocator}
use Rattle.record_spec.specs.Block.{Block}
use Rattle.store_spec.specs.Entry.{block_at}
use Rattle.final_spec.specs.Voters.{votes_for, voters}
use Rattle.final_spec.specs.Finality.{blocks_of}
use Rattle.final_spec.proofs.Spoken.{spoken_nobody}
use Rattle.final_readings_spec.specs.Rejecting.{rejects, own_reject, rejecters}
use Rattle.final_readings_spec.specs.Readings.{Reading, old, withdrawing, voters_in}
use Rattle.final_readings_spec.proofs.Words.{without_nobody}
use Rattle.final_block_votes.specs.Walk.{SortedStore, block_at_place}
use Rattle.list_block_spans.proofs.Fits.{vote_offset}
use Rattle.final_voters.specs.Walk.{spoken_at}
use Rattle.final_certifying.proofs.Finding.{block_position}
use Rattle.list_readings_spec.proofs.Between.{no_voters}
use Rattle.list_ancestry.specs.Heard.{Owned, HeardBelow}
use Rattle.list_walk.specs.Walk.{counted, CountedRight}

module _ (s : Bytes) (order : List ℕ) (l : TransactionLocator) where
  -- in the old reading every voter counts
  pub counted_old : (gone : List ℕ) → CountedRight false old s order l gone
  unfolding counted voters_in spoken_at
  counted_old gone k h = refl

  -- with those who reject it is the new one
  pub counted_new : (gone : List ℕ) → HeardBelow own_reject s order l gone (length order) → CountedRight true withdrawing s order l gone
  unfolding counted voters_in spoken_at
  counted_new gone x k h = ap (without (voters (blocks_of s) l (block_at_place s order k).reference)) (x k h)

  -- where nobody rejects, both are the same
  pub counted_same : ((r : BlockReference) → rejecters (blocks_of s) l r ≡ nobody) → (gone : List ℕ) → CountedRight false withdrawing s order l gone
  unfolding counted voters_in spoken_at
  counted_same none gone k h = sym (rw (none (block_at_place s order k).reference)
      (without_nobody (voters (blocks_of s) l (block_at_place s order k).reference)))

  -- where nobody votes, too
  pub counted_none : (reading : Reading) → ((d : Block) → d ∈ blocks_of s → votes_for d l ≡ false) → (gone : List ℕ) → CountedRight false reading s order l gone
  unfolding counted spoken_at voters_in
  counted_none reading none gone k h = no_voters old (blocks_of s) l none (block_at_place s order k).reference ∙ sym
      (no_voters reading (blocks_of s) l none (block_at_place s order k).reference)

-- no place is marked, so nobody rejects
pub none_rejects : (s : Bytes) (order : List ℕ) → SortedStore s order → (l : TransactionLocator) (own : List ℕ) → Owned true s order l own →
    ((k : ℕ) → k < length order → eqb (get_or own k 0) 1 ≡ false)
    → (r : BlockReference) → rejecters (blocks_of s) l r ≡ nobody
unfolding Owned own_reject SortedStore block_at_place
none_rejects s order o l own w f r = spoken_nobody own_reject l (blocks_of s) (λ d m. rw (quiet d m)) r
  where
    quiet : (d : Block) → d ∈ blocks_of s → rejects d l ≡ false
    quiet d m =
        let p = block_position o.0 s order o.1 d m in
        let y = member_place 0 order p.1 in
        subst (λ (x : Block). rejects x l ≡ false) (ap (block_at s) y.1.1 ∙ p.2) (sym (w y.0 y.1.0) ∙ f y.0 y.1.0)

-- no vote reaches the last offset
pub last_unvoted : (s : Bytes) (order : List ℕ) → SortedStore s order → AllBytes s → (l : TransactionLocator) → l.offset ≡ 18446744073709551615 → (d : Block)
    → d ∈ blocks_of s → votes_for d l ≡ false
unfolding SortedStore
last_unvoted s order o bytes l e d m = fails (votes_for d l) (λ h. let x = vote_offset o.0 s bytes o.1.in_order d m l h in omega arith)
