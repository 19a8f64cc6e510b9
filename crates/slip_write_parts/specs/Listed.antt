-- Machinery for the contracts of inner functions: the slip of the certifying blocks of a table. Assumes nothing: these are definitions.
use Rattle.std.specs.Prelude.{ℕ, ◌<◌, ◌≡◌, true, false, List, ◌∷◌, ◌++◌, length}
use Rattle.base.specs.Lists.{is_none}
use Rattle.base.specs.Le.{Bytes, le_bytes}
use Rattle.committee_set.specs.AuthoritySet.{member}
use Rattle.record_spec.specs.Reference.{TransactionLocator}
use Rattle.record_spec.specs.Record.{locator_bytes}
use Rattle.final_block_votes.specs.Walk.{block_at_place}
use Rattle.slip_write_distances.specs.Near.{away}
use Rattle.slip_write_table.specs.Table.{place_in, voters_in}
use Rattle.slip_write_certifiers.specs.Ready.{certifiers_bytes}

-- each certifying block of a table stands at a place, and has a path to a vote of each of its voters
unfoldable pub Voted : Bytes → List ℕ → TransactionLocator → List ℕ → ℕ → Type 0
Voted s order l t n = (i : ℕ) → i < n
    → (place_in t i < length order)
    × ((a : ℕ) → a < 128 → member (voters_in t i) a ≡ true → is_none (away s l a (block_at_place s order (place_in t i)).reference) ≡ false)

unfoldable pub head_bytes : ℕ → TransactionLocator → ℕ → Bytes
head_bytes first l n = first ∷ (locator_bytes l ++ le_bytes 2 n)

-- the slip of the first n of a table
unfoldable pub listed_bytes : Bytes → List ℕ → TransactionLocator → ℕ → List ℕ → ℕ → Bytes
listed_bytes s order l first t n = head_bytes first l n ++ certifiers_bytes s order l t n
