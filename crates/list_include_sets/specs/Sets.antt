-- Machinery for the contracts of inner functions: the includes of a block as a set of places. Assumes nothing: these are definitions.
use Rattle.std.specs.Prelude.{ℕ, zero, suc, ◌+◌, ◌*◌, ◌/◌, ◌%◌, ◌^◌, ◌≤◌, ◌<◌, ◌≡◌, Bool, true, List, eqb, length, get_or, set}
use Rattle.std.specs.Int.Bits.{bit_or}
use Rattle.base.specs.Lists.{pick}
use Rattle.base.specs.Le.{Bytes}
use Rattle.committee_set.specs.AuthoritySet.{AuthoritySet, nobody, bit, united}
use Rattle.record_spec.specs.Record.{no_reference}
use Rattle.final_block_votes.specs.Walk.{block_at_place}
use Rattle.list_includes_spec.specs.Places.{IsPlace, set_at}

-- the place p is in the set of block k
unfoldable pub has : List ℕ → ℕ → ℕ → Bool
has sets k p = bit (get_or sets (17 * k + p / 64) 0) (p % 64)

unfoldable pub with_place : List ℕ → ℕ → ℕ → List ℕ
with_place sets k p = set sets (17 * k + p / 64) (bit_or (get_or sets (17 * k + p / 64) 0) (2 ^ (p % 64)))

-- the set of block k has the places of its first n includes, and no others
pub record Row (s : Bytes) (order sets : List ℕ) (k n : ℕ) : Type 0 where
  pub sound : (p : ℕ) → p < 1024 → has sets k p ≡ true → (j : ℕ) × ((j < n) × IsPlace s order p (get_or (block_at_place s order k).includes j no_reference))
  pub whole : (j : ℕ) → j < n → (p : ℕ) × ((p < 1024) × ((has sets k p ≡ true) × IsPlace s order p (get_or (block_at_place s order k).includes j no_reference)))

-- the same, written over what was there; the words of other blocks are kept
pub record NotedRow (s : Bytes) (order : List ℕ) (k n : ℕ) (sets₀ sets : List ℕ) : Type 0 where
  pub long : length sets ≡ length sets₀
  pub kept : (x : ℕ) → x < 17 * k → get_or sets x 0 ≡ get_or sets₀ x 0
  pub past : (x : ℕ) → 17 * k + 16 ≤ x → get_or sets x 0 ≡ get_or sets₀ x 0
  pub row : Row s order sets k n

-- the set of block k is the one of the block before
unfoldable pub SameBefore : List ℕ → ℕ → Type 0
SameBefore sets k = (j : ℕ) × ((j + 1 ≡ k) × ((i : ℕ) → i < 16 → get_or sets (17 * k + i) 0 ≡ get_or sets (17 * j + i) 0))

-- the sets of the blocks at the first n places
pub record Included (s : Bytes) (order sets : List ℕ) (n : ℕ) : Type 0 where
  pub room : 17 * n ≤ length sets
  pub rows : (k : ℕ) → k < n → Row s order sets k (length (block_at_place s order k).includes)
  pub same : (k : ℕ) → k < n → get_or sets (17 * k + 16) 0 ≡ 1 → SameBefore sets k

-- who speaks in the ancestry of the blocks at those of the first n places that are in the set of block k
unfoldable pub gathered_to : List ℕ → List ℕ → ℕ → ℕ → AuthoritySet
gathered_to sets memo k zero = nobody
gathered_to sets memo k (suc n) = united (gathered_to sets memo k n) (pick (has sets k n) (set_at memo n) nobody)

-- the same for all places, or what was found for the block before where its set is the same
unfoldable pub taken : List ℕ → List ℕ → ℕ → AuthoritySet → AuthoritySet
taken sets memo k last = pick (eqb (get_or sets (17 * k + 16) 0) 1) last (gathered_to sets memo k 1024)
