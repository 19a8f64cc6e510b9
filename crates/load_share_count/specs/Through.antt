-- Machinery for the contracts of inner functions: the stored shares that were gone through. Assumes nothing: these are definitions.
use Rattle.std.specs.Prelude.{ℕ, take}
use mathlib.Core.List.{List, map, flatten}
use Rattle.base.specs.Lists.{keep, count_from}
use Rattle.base.specs.Le.{Bytes}
use Rattle.record_spec.specs.Reference.{TransactionLocator, locator}
use Rattle.record_spec.specs.Block.{Block, is_share_at}
use Rattle.store_spec.specs.Entry.{block_at}
use Rattle.list_ordinary_spec.specs.Shares.{shares_of}

-- the shares of a block at its first i offsets
unfoldable pub shares_below : Block → ℕ → List TransactionLocator
shares_below b i = map (locator b.reference) (keep (is_share_at b) (count_from 0 i))

-- those of the blocks at the first k places of an order
unfoldable pub shares_through : Bytes → List ℕ → ℕ → List TransactionLocator
shares_through s order k = flatten (map (λ p. shares_of (block_at s p)) (take k order))
