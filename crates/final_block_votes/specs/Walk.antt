-- Machinery for the contracts of private functions: reading blocks where they stand, and what is remembered of them. Assumes nothing: these are definitions.
use Rattle.std.specs.Prelude.{ℕ, ◌≡◌, Bool, true, false, get_or}
use mathlib.Core.List.{List, [], ◌∷◌, Option-to_list}
use Rattle.base.specs.Lists.{pick, any_of}
use Rattle.base.specs.Le.{Bytes}
use Rattle.committee.specs.Committee.{Committee, broken}
use Rattle.record_spec.specs.Reference.{BlockReference, TransactionLocator, TransactionLocatorRange, locator, one_range, covers}
use Rattle.record_spec.specs.Block.{Statement, Block, is_share, voted_range}
use Rattle.store_spec.specs.Store.{records_of, store_in_order}
use Rattle.store_spec.specs.Entry.{block_at, laid_out, sorted_positions}

-- the locators for which the statement at an offset of a block votes
unfoldable pub span_of : BlockReference → ℕ → Statement → List TransactionLocatorRange
span_of r o s = pick (is_share s) (one_range (locator r o) ∷ []) (Option-to_list (voted_range s))

unfoldable pub statement_votes : BlockReference → ℕ → Statement → TransactionLocator → Bool
statement_votes r o s l = any_of (λ q. covers q l) (span_of r o s)

-- a store in order, with the positions of its entries in ascending reference order
pub record Sorted (c : Committee) (s : Bytes) (order : List ℕ) : Type 0 where
  pub sound : broken c ≡ false
  pub in_order : store_in_order c s ≡ true
  pub laid : laid_out s ≡ true
  pub places : order ≡ sorted_positions (records_of s)

-- the same under some committee
unfoldable pub SortedStore : Bytes → List ℕ → Type 0
SortedStore s order = (c : Committee) × Sorted c s order

-- the block at a place of that order
unfoldable pub block_at_place : Bytes → List ℕ → ℕ → Block
block_at_place s order k = block_at s (get_or order k 0)
