-- Machinery for the contracts of inner functions: what a walk over the blocks knows. Assumes nothing: these are definitions.
use Rattle.std.specs.Prelude.{ℕ, ◌≤◌, ◌<◌, ◌≡◌, Bool, true, false, List, map, eqb, ltb, length, get_or}
use Rattle.base.specs.Lists.{pick}
use Rattle.base.specs.Le.{Bytes}
use Rattle.committee.specs.Committee.{Committee, Stake, total_stake}
use Rattle.committee_set.specs.AuthoritySet.{AuthoritySet, set_of, without}
use Rattle.record_spec.specs.Reference.{TransactionLocator}
use Rattle.record_spec.specs.Block.{author}
use Rattle.final_spec.specs.Voters.{own_vote}
use Rattle.final_spec.specs.Finality.{blocks_of}
use Rattle.final_readings_spec.specs.Readings.{Reading, voters_in, certifies_in, certifiers_in}
use Rattle.final_readings_spec.specs.Finality.{certifying_positions_in}
use Rattle.final_certifying.specs.declared.Certifiers as found
use Rattle.final_block_votes.specs.Walk.{Sorted, block_at_place}
use Rattle.final_voters.specs.Walk.{spoken_at}
use Rattle.list_includes_spec.specs.Places.{set_at}
use Rattle.list_ancestry.specs.Heard.{Owned}

-- a store in order, its positions and the total stake
abbrev pub Ready : Committee → Stake → Bytes → List ℕ → Type 0
Ready c total s order = (Sorted c s order × (total ≡ total_stake c)) × (length order ≤ 1024)

-- whether rejects are noted
unfoldable pub any_noted : List ℕ → Bool
any_noted rejecters = ltb 0 (length rejecters)

-- those who vote, less those who reject where rejects are noted
unfoldable pub counted : Bool → AuthoritySet → AuthoritySet → AuthoritySet
counted true voters rejecters = without voters rejecters
counted false voters rejecters = voters

-- what counts is the voters of a reading
abbrev pub CountedRight : Bool → Reading → Bytes → List ℕ → TransactionLocator → List ℕ → Type 0
CountedRight rejected reading s order l rejecters =
    (k : ℕ) → k < length order → counted rejected (spoken_at own_vote s order l k) (set_at rejecters k) ≡ voters_in reading (blocks_of s) l
    (block_at_place s order k).reference

-- the number of certifying blocks, and their authors
unfoldable pub Certify : Reading → Committee → Bytes → TransactionLocator → found.Certifiers → Type 0
Certify reading c s l r =
    (r.blocks ≡ length (certifying_positions_in reading c s l)) × (r.authors ≡ set_of (map author (certifiers_in reading c (blocks_of s) l)))

-- a word for each place: whether its block certifies
unfoldable pub Flags : Reading → Committee → Bytes → List ℕ → TransactionLocator → List ℕ → Type 0
Flags reading c s order l f = (k : ℕ) → k < length order → get_or f k 0 ≡ pick (certifies_in reading c (blocks_of s) l (block_at_place s order k)) 1 0

abbrev pub CertifyFlagged : Reading → Committee → Bytes → List ℕ → TransactionLocator → List ℕ → found.Certifiers → Type 0
CertifyFlagged reading c s order l f r = Certify reading c s l r × Flags reading c s order l f

-- the same of whatever reading and locator the marks and the rejects are of
unfoldable pub CertifyMarked : Bool → Committee → Bytes → List ℕ → List ℕ → List ℕ → List ℕ → found.Certifiers → Type 0
CertifyMarked rejected c s order own rejecters f r =
    (reading : Reading) (l : TransactionLocator) → Owned false s order l own → CountedRight rejected reading s order l rejecters → CertifyFlagged reading c s
    order l f r

-- no place before the r-th of the first n is marked, and 0 is written for each of them
pub record Skipped (own : List ℕ) (n : ℕ) (f₀ f : List ℕ) (r : ℕ) : Type 0 where
  pub inside : r ≤ n
  pub long : length f ≡ length f₀
  pub unmarked : (k : ℕ) → k < r → eqb (get_or own k 0) 1 ≡ false
  pub zeros : (k : ℕ) → k < r → get_or f k 0 ≡ 0

-- the first n words are the same, or one differs
unfoldable pub SameWords : List ℕ → List ℕ → ℕ → Bool → Type 0
SameWords a b n true = (k : ℕ) → k < n → get_or a k 0 ≡ get_or b k 0
SameWords a b n false = (k : ℕ) × ((k < n) × (get_or a k 0 ≡ get_or b k 0 → ⊥))
