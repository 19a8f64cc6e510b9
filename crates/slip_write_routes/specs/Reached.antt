-- Machinery for the contracts of inner functions: voters and paths as the tables of distances give them. Assumes nothing: these are definitions.
use Rattle.std.specs.Prelude.{ℕ, ◌+◌, ◌*◌, ◌<◌, ◌≡◌, true, length, get_or}
use mathlib.Core.List.{List, map, flatten}
use Rattle.base.specs.Lists.{sum_of}
use Rattle.base.specs.Le.{Bytes}
use Rattle.committee.specs.Committee.{AuthorityIndex}
use Rattle.committee_set.specs.AuthoritySet.{AuthoritySet, member, members}
use Rattle.record_spec.specs.Reference.{TransactionLocator}
use Rattle.final_spec.specs.Finality.{blocks_of}
use Rattle.final_block_votes.specs.Walk.{block_at_place}
use Rattle.slip_spec.specs.Slip.{voter_bytes}
use Rattle.slip_spec.specs.Writing.{voter_of}
use Rattle.slip_write_distances.specs.Near.{Distances}

-- the tables are those of some locator
unfoldable pub Found : Bytes → List ℕ → List ℕ → List ℕ → Type 0
Found s order near steps = (l : TransactionLocator) × Distances s order l near steps (length order)

-- a voter of the block at a place, as a slip lists it
unfoldable pub voter_at : Bytes → List ℕ → TransactionLocator → ℕ → AuthorityIndex → Bytes
voter_at s order l k a = voter_bytes (voter_of (blocks_of s) l (block_at_place s order k) a)

unfoldable pub voters_at : Bytes → List ℕ → TransactionLocator → ℕ → AuthoritySet → Bytes
voters_at s order l k v = flatten (map (voter_at s order l k) (members v))

-- each of the voters has a vote that the block at a place comes to
unfoldable pub Reached : List ℕ → ℕ → AuthoritySet → Type 0
Reached near k v = (a : AuthorityIndex) → a < 128 → member v a ≡ true → 0 < get_or near (128 * k + a) 0

-- the bytes of a voter: author, path length and path
unfoldable pub voter_size : List ℕ → ℕ → AuthorityIndex → ℕ
voter_size near k a = 9 + get_or near (128 * k + a) 0

unfoldable pub voters_size : List ℕ → ℕ → AuthoritySet → ℕ
voters_size near k v = sum_of (map (voter_size near k) (members v))
