-- What the walk over the includes of a block has when it has read the first of them. Assumes nothing.
use mathlib.Core.Path.{◌≡◌}
use mathlib.Core.List.{List, map}
use Prim.Native.Nat.{ℕ, ◌≤◌, ◌<◌}
use lib.ListN.{length, drop}
use Rattle.base.specs.Le.{Bytes}
use Rattle.committee_set.specs.AuthoritySet.{AuthoritySet, united}
use Rattle.record_spec.specs.Reference.{TransactionLocator}
use Rattle.final_spec.specs.Voters.{Speech, unions, spoken}
use Rattle.final_spec.specs.Finality.{blocks_of}
use Rattle.final_spec.proofs.Spoken.{spoken_step}
use Rattle.final_block_votes.specs.Walk.{SortedStore, block_at_place}
use Rattle.final_block_votes.proofs.Sorting.{sorted_well, place_stored}
use Rattle.final_voters.specs.Walk.{spoken_at, Remembers}

pub record VisitedIncludes (own : Speech) (s : Bytes) (order : List ℕ) (l : TransactionLocator) (k : ℕ) (memo₀ memo : List ℕ) (found : AuthoritySet) (j : ℕ) :
    Type 0 where
  pub some_read : j ≤ length (block_at_place s order k).includes
  pub long : length memo ≡ length memo₀
  pub remembers : Remembers own s order l memo
  pub together : united found (unions (map (spoken own (blocks_of s) l) (drop j (block_at_place s order k).includes))) ≡ unions
      (map (spoken own (blocks_of s) l) (block_at_place s order k).includes)

-- the step: whom the block itself speaks for, with its includes
pub place_spoken : (own : Speech) (s : Bytes) (order : List ℕ) (o : SortedStore s order) (k : ℕ) → k < length order → (l : TransactionLocator)
    → spoken_at own s order l k ≡ united (own (block_at_place s order k) l) (unions (map (spoken own (blocks_of s) l) (block_at_place s order k).includes))
unfolding spoken_at
place_spoken own s order o k h l = spoken_step own (sorted_well s order o) l (block_at_place s order k) (place_stored s order o k h)
