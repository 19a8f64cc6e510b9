-- Machinery for the contracts of inner functions: the bytes of a table of certifying blocks. Assumes nothing: these are definitions.
use Rattle.std.specs.Prelude.{ℕ, ◌+◌, ◌<◌, length}
use mathlib.Core.List.{List, ◌++◌, map, flatten}
use Rattle.base.specs.Lists.{count_from, sum_of}
use Rattle.base.specs.Le.{Bytes, le_bytes}
use Rattle.committee_set.specs.AuthoritySet.{AuthoritySet, number_of_voters}
use Rattle.record_spec.specs.Reference.{TransactionLocator}
use Rattle.record_spec.specs.Record.{reference_bytes}
use Rattle.final_block_votes.specs.Walk.{block_at_place}
use Rattle.slip_write_routes.specs.Reached.{voters_at, Reached, voters_size}
use Rattle.slip_write_table.specs.Table.{place_in, voters_in}

-- each stands at a place, and comes to a vote of each of its voters
unfoldable pub Ready : List ℕ → List ℕ → List ℕ → ℕ → Type 0
Ready order near t n = (i : ℕ) → i < n → (place_in t i < length order) × Reached near (place_in t i) (voters_in t i)

-- a certifying block as a slip lists it
unfoldable pub certifier_bytes_at : Bytes → List ℕ → TransactionLocator → ℕ → AuthoritySet → Bytes
certifier_bytes_at s order l k v = reference_bytes (block_at_place s order k).reference ++ (le_bytes 1 (number_of_voters v) ++ voters_at s order l k v)

unfoldable pub certifiers_bytes : Bytes → List ℕ → TransactionLocator → List ℕ → ℕ → Bytes
certifiers_bytes s order l t n = flatten (map (λ i. certifier_bytes_at s order l (place_in t i) (voters_in t i)) (count_from 0 n))

unfoldable pub certifier_size : List ℕ → List ℕ → ℕ → ℕ
certifier_size near t i = 49 + voters_size near (place_in t i) (voters_in t i)

unfoldable pub certifiers_size : List ℕ → List ℕ → ℕ → ℕ
certifiers_size near t n = sum_of (map (certifier_size near t) (count_from 0 n))
