-- Machinery for the contracts of inner functions: the place of a block, and a set of owners in two words. Assumes nothing: these are definitions.
use Rattle.std.specs.Prelude.{ℕ, ◌+◌, ◌*◌, ◌<◌, ◌≡◌, List, length, get_or}
use Rattle.base.specs.Le.{Bytes}
use Rattle.committee_set.specs.AuthoritySet.{AuthoritySet}
use Rattle.record_spec.specs.Reference.{BlockReference}
use Rattle.final_block_votes.specs.Walk.{block_at_place}

-- the place at which a block of that reference stands
unfoldable pub IsPlace : Bytes → List ℕ → ℕ → BlockReference → Type 0
IsPlace s order p r = (p < length order) × ((block_at_place s order p).reference ≡ r)

-- two words for each place: who speaks in the ancestry of its block
unfoldable pub set_at : List ℕ → ℕ → AuthoritySet
set_at memo p = record { low = get_or memo (2 * p) 0; high = get_or memo (2 * p + 1) 0 }
