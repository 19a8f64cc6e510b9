-- Machinery for the contracts of inner functions: certifying blocks with their voters, three words each. Assumes nothing: these are definitions.
use Rattle.std.specs.Prelude.{ℕ, ◌+◌, ◌*◌, ◌<◌, ◌≡◌, List, length, get_or, set}
use Rattle.base.specs.Le.{Bytes}
use Rattle.committee_set.specs.AuthoritySet.{AuthoritySet}
use Rattle.record_spec.specs.Reference.{TransactionLocator}
use Rattle.store_spec.specs.Entry.{block_at}
use Rattle.final_readings_spec.specs.Readings as readings
use Rattle.final_spec.specs.Finality.{blocks_of}
use Rattle.final_block_votes.specs.Walk.{block_at_place}

-- the place of the block, and its voters
unfoldable pub place_in : List ℕ → ℕ → ℕ
place_in t i = get_or t (3 * i) 0

unfoldable pub voters_in : List ℕ → ℕ → AuthoritySet
voters_in t i = record { low = get_or t (3 * i + 1) 0; high = get_or t (3 * i + 2) 0 }

unfoldable pub noted : List ℕ → ℕ → ℕ → AuthoritySet → List ℕ
noted t i k v = set (set (set t (3 * i) k) (3 * i + 1) v.low) (3 * i + 2) v.high

-- the first n of the table are the blocks at the first n of some positions, with their voters in a reading
pub record Listed (reading : readings.Reading) (s : Bytes) (order : List ℕ) (l : TransactionLocator) (positions t : List ℕ) (n : ℕ) : Type 0 where
  pub places : (i : ℕ) → i < n → place_in t i < length order
  pub blocks : (i : ℕ) → i < n → block_at_place s order (place_in t i) ≡ block_at s (get_or positions i 0)
  pub voted : (i : ℕ) → i < n → voters_in t i ≡ readings.voters_in reading (blocks_of s) l (block_at_place s order (place_in t i)).reference
