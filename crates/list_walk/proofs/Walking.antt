-- Going over the blocks in ascending reference order. Assumes nothing.
use mathlib.Core.Path.{◌≡◌, sym, ap, subst, ◌∙◌}
use mathlib.Core.Bool.{Bool, true, false, not, ◌&&◌}
use mathlib.Core.List.{List, [], ◌∷◌}
use Prim.Native.Nat.{ℕ, ◌+◌, ◌≤◌, ◌<◌}
use native.Mathlib.Omega.{arith}
use native.Mathlib.Decide.{ℕ_discrete}
use lib.ListN.{length, get_or, set, length-set, length-append}
use lib.Seq.{get_or-set_same, get_or-set_other}
use Rattle.base.specs.Lists.{pick}
use Rattle.base.specs.Le.{Bytes}
use Rattle.committee.specs.Committee.{Committee}
use Rattle.committee_set.specs.AuthoritySet.{AuthoritySet, inserted}
use Rattle.record_spec.specs.Reference.{TransactionLocator}
use Rattle.record_spec.specs.Block.{author}
use Rattle.store_spec.specs.Entry.{block_at}
use Rattle.final_spec.specs.Finality.{blocks_of}
use Rattle.final_readings_spec.specs.Readings.{Reading, voters_in, certifies_in}
use Rattle.final_block_votes.specs.Walk.{block_at_place}
use Rattle.final_certifying.proofs.Finding.{holds_at, found, found_yes, found_no, Authors, authors_more}
use Rattle.list_ancestry.specs.Heard.{with_set}
use Rattle.list_ancestry.proofs.Marking.{with_length}
use Rattle.committee_quorum.specs.declared.Checked.{Checked}
use Rattle.committee_quorum.specs.Sure.{Sure}

-- ---- what is known when the blocks at the first k places are read

pub record Going (c : Committee) (order memo flags : List ℕ) (n : ℕ) (last : Checked) (k : ℕ) : Type 0 where
  pub inside : k ≤ length order
  pub few : n ≤ k
  pub long : length memo ≡ 2048
  pub wide : length flags ≡ 1024
  pub sure : Sure c last

pub record Walking (reading : Reading) (c : Committee) (s : Bytes) (l : TransactionLocator) (order flags : List ℕ) (authors : AuthoritySet) (n k : ℕ) : Type 0
  where
    pub many : n ≡ length (found (certifies_in reading c (blocks_of s) l) s order k)
    pub authored : Authors s (found (certifies_in reading c (blocks_of s) l) s order k) authors
    pub flagged : (j : ℕ) → j < k → get_or flags j 0 ≡ pick (holds_at (certifies_in reading c (blocks_of s) l) s (get_or order j 0)) 1 0

pub going_more : (c : Committee) (order memo flags : List ℕ) (n : ℕ) (last : Checked) (k : ℕ) → Going c order memo flags n last k → k < length order →
    (v : AuthoritySet) (next : Checked) → Sure c next
    → (m : ℕ) → m ≤ k + 1 → (x : ℕ) → Going c order (with_set memo k v) (set flags k x) m next (k + 1)
going_more c order memo flags n last k w h v next z m few x =
    record { inside = omega arith; few = few; long = with_length memo k v ∙ w.long; wide = length-set flags k x ∙ w.wide; sure = z }

module _ (reading : Reading) (c : Committee) (s : Bytes) (l : TransactionLocator) (order : List ℕ) where
  module _ (flags : List ℕ) (authors : AuthoritySet) (n k : ℕ) (w : Walking reading c s l order flags authors n k) (h : k < length order)
      (fit : k < length flags)
      (v : AuthoritySet) (e : v ≡ voters_in reading (blocks_of s) l (block_at_place s order k).reference) (next : Checked) (f : next.voters ≡ v)
      (z : Sure c next) where
    -- the voters of the block decide
    decides : holds_at (certifies_in reading c (blocks_of s) l) s (get_or order k 0) ≡ not (block_at s (get_or order k 0)).marked && next.quorum
    unfolding certifies_in block_at_place Sure
    decides = rw (z, f, e)

    flagged_more : (t : Bool) → holds_at (certifies_in reading c (blocks_of s) l) s (get_or order k 0) ≡ t
        → (j : ℕ) → j < k + 1 → get_or (set flags k (pick t 1 0)) j 0 ≡ pick (holds_at (certifies_in reading c (blocks_of s) l) s (get_or order j 0)) 1 0
    flagged_more t q j m = go (ℕ_discrete j k)
      where
        go : Dec (j ≡ k) → get_or (set flags k (pick t 1 0)) j 0 ≡ pick (holds_at (certifies_in reading c (blocks_of s) l) s (get_or order j 0)) 1 0
        go (yes i) = rw (i, get_or-set_same flags k (pick t 1 0) 0 fit, q)
        go (no i) = get_or-set_other flags k j (pick t 1 0) 0 i ∙ w.flagged j (omega arith)

    pub walking_no : not (block_at s (get_or order k 0)).marked && next.quorum ≡ false → Walking reading c s l order (set flags k 0) authors n (k + 1)
    walking_no q =
        let x = found_no (certifies_in reading c (blocks_of s) l) s order k h (decides ∙ q) in
        record {
          many = w.many ∙ ap length (sym x);
          authored = subst (λ (qs : List ℕ). Authors s qs authors) (sym x) w.authored;
          flagged = flagged_more
              false (decides ∙ q);
        }

    pub walking_yes : not (block_at s (get_or order k 0)).marked && next.quorum ≡ true → author (block_at s (get_or order k 0)) < 128
        → Walking reading c s l order (set flags k 1) (inserted authors (author (block_at s (get_or order k 0)))) (n + 1) (k + 1)
    walking_yes q a =
        let x = found_yes (certifies_in reading c (blocks_of s) l) s order k h (decides ∙ q) in
        let qs : List ℕ = found (certifies_in reading c (blocks_of s) l) s order k in
        let p : ℕ = get_or order k 0 in
        record {
          many = omega (arith, w.many, ap length x, length-append qs (p ∷ []));
          authored = subst (λ (xs : List ℕ). Authors s xs (inserted authors (author (block_at s p)))) (sym x) (authors_more s qs authors p a w.authored);
          flagged = flagged_more true (decides ∙ q);
        }

-- one word more
pub same_more : (a b : List ℕ) (k : ℕ) → ((j : ℕ) → j < k → get_or a j 0 ≡ get_or b j 0) → get_or a k 0 ≡ get_or b k 0 → (j : ℕ) → j < k + 1 → get_or a j 0
    ≡ get_or b j 0
same_more a b k f e j h = go (ℕ_discrete j k)
  where
    go : Dec (j ≡ k) → get_or a j 0 ≡ get_or b j 0
    go (yes q) = rw (q, e)
    go (no q) = f j (omega arith)
