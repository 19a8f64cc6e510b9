-- Machinery for the contracts of private functions: reading blocks where they stand, and what is remembered of them. Assumes nothing: these are definitions.
use Rattle.std.specs.Prelude.{ℕ, ◌+◌, ◌*◌, ◌≤◌, ◌<◌, ◌≡◌, List, length, get_or, set, take, drop}
use Rattle.base.specs.Le.{Bytes}
use Rattle.committee_set.specs.AuthoritySet.{AuthoritySet}
use Rattle.record_spec.specs.Reference.{TransactionLocator}
use Rattle.final_spec.specs.Voters.{Speech, own_vote, spoken}
use Rattle.final_spec.specs.Finality.{blocks_of}
use Rattle.final_block_votes.specs.Walk.{block_at_place}
use Rattle.final_readings_spec.specs.Rejecting.{own_reject}

-- who speaks in the ancestry of the block at a place
unfoldable pub spoken_at : Speech → Bytes → List ℕ → TransactionLocator → ℕ → AuthoritySet
spoken_at own s order l k = spoken own (blocks_of s) l (block_at_place s order k).reference

-- three words for each place: who speaks in the ancestry of its block, and 1 once that is known
unfoldable pub remembered : List ℕ → ℕ → AuthoritySet
remembered memo k = record { low = get_or memo (3 * k) 0; high = get_or memo (3 * k + 1) 0 }

unfoldable pub noted : List ℕ → ℕ → AuthoritySet → List ℕ
noted memo k v = set (set (set memo (3 * k) v.low) (3 * k + 1) v.high) (3 * k + 2) 1

-- what is remembered is right
unfoldable pub Remembers : Speech → Bytes → List ℕ → TransactionLocator → List ℕ → Type 0
Remembers own s order l memo = (k : ℕ) → k < length order → get_or memo (3 * k + 2) 0 ≡ 1 → remembered memo k ≡ spoken_at own s order l k

-- one memory for both: who votes in its first half, who rejects in its second
pub record RemembersBoth (s : Bytes) (order : List ℕ) (l : TransactionLocator) (memo : List ℕ) : Type 0 where
  pub few : length order ≤ 1024
  pub long : length memo ≡ 6144
  pub votes : Remembers own_vote s order l (take 3072 memo)
  pub rejects : Remembers own_reject s order l (take 3072 (drop 3072 memo))
