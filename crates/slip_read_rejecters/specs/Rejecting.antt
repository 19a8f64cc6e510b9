-- Machinery for the contracts of inner functions: who rejects in the ancestry of a record, two words a place. Assumes nothing: these are definitions.
use Rattle.std.specs.Prelude.{ℕ, ◌+◌, ◌*◌, ◌<◌, ◌≡◌, Bool, true, false, ◌&&◌, List, length, get_or}
use Rattle.base.specs.Le.{Bytes}
use Rattle.committee_set.specs.AuthoritySet.{AuthoritySet, nobody, member}
use Rattle.record_spec.specs.Reference.{TransactionLocator}
use Rattle.final_readings_spec.specs.Readings.{Reading}
use Rattle.slip_spec.specs.Supplied.{supplied_blocks}
use Rattle.slip_spec.specs.Ancestry.{in_ancestry, rejects_as, has_rejected}
use Rattle.slip_read_records.specs.Places.{block_at_place}
use Rattle.slip_read_paths.specs.declared.Led.{Led}
use Rattle.slip_read_paths.specs.declared.Led.TheVariants.{To, Nowhere, NotGiven}

-- the two words of a place
unfoldable pub set_at : List ℕ → ℕ → AuthoritySet
set_at t j = record { low = get_or t (2 * j) 0; high = get_or t (2 * j + 1) 0 }

-- an include's two words stand in the table
unfoldable pub InTable : List ℕ → Led → Type 0
InTable t (To j) = 2 * j + 1 < length t
InTable t Nowhere = Unit {0}
InTable t NotGiven = Unit {0}

unfoldable pub rejecters_at : List ℕ → Led → AuthoritySet
rejecters_at t (To j) = set_at t j
rejecters_at t Nowhere = nobody
rejecters_at t NotGiven = nobody

-- for the first n places it is noted who rejects in the ancestry of the block there
pub record Rejecting (q : Bytes) (order : List ℕ) (l : TransactionLocator) (n : ℕ) (t : List ℕ) : Type 0 where
  pub at : (j : ℕ) → j < n → (a : ℕ) → a < 128 → member (set_at t j) a ≡ in_ancestry (rejects_as l a) (supplied_blocks q) (block_at_place q order j)

-- for every place, in a reading
pub record RejectingIn (reading : Reading) (q : Bytes) (order : List ℕ) (l : TransactionLocator) (t : List ℕ) : Type 0 where
  pub at : (j : ℕ) → j < length order → (a : ℕ) → a < 128 → member (set_at t j) a ≡ has_rejected reading (supplied_blocks q) l (block_at_place q order j) a

-- somebody of those whom a committee can have is in both, or nobody is
unfoldable pub Meeting : AuthoritySet → AuthoritySet → Bool → Type 0
Meeting v w true = (a : ℕ) × ((a < 128) × (member v a && member w a ≡ true))
Meeting v w false = (a : ℕ) → a < 128 → member v a && member w a ≡ false
