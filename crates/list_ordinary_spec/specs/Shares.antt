-- All stored shares, over a list of blocks, the newest first. Assumes nothing: these are definitions.
use mathlib.Core.List.{List, map, flatten}
use Rattle.std.specs.Prelude.{length}
use Rattle.base.specs.Lists.{keep, count_from}
use Rattle.record_spec.specs.Reference.{TransactionLocator, locator}
use Rattle.record_spec.specs.Block.{Block, is_share_at}
use Rattle.final_spec.specs.NextFinal.{ascending_locators}

-- the shares of a block, ascending
unfoldable pub shares_of : Block → List TransactionLocator
shares_of b = map (locator b.reference) (keep (is_share_at b) (count_from 0 (length b.statements)))

-- every stored share, ascending
unfoldable pub stored_shares : List Block → List TransactionLocator
stored_shares bs = ascending_locators (flatten (map shares_of bs))
