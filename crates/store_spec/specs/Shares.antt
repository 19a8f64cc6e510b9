-- Stored shares, over the stored blocks. Assumes nothing: these are definitions.
use Rattle.std.specs.Prelude.{◌≡◌, Bool, true, ◌&&◌, List}
use Rattle.base.specs.Lists.{any_of, ◌∈◌}
use Rattle.record_spec.specs.Reference.{TransactionLocator, same_reference}
use Rattle.record_spec.specs.Block.{Block, is_share_at}

-- the locator names a share of the block
unfoldable pub is_share_of : Block → TransactionLocator → Bool
is_share_of b l = same_reference b.reference l.block && is_share_at b l.offset

-- 01: "a locator that names .. [a] stored share": a share of a stored block
unfoldable pub is_stored_share : List Block → TransactionLocator → Bool
is_stored_share bs l = any_of (λ b. is_share_of b l) bs

-- what that means
pub record StoredShare (bs : List Block) (l : TransactionLocator) : Type 0 where
  pub block : Block
  pub stored : block ∈ bs
  pub named : block.reference ≡ l.block
  pub shared : is_share_at block l.offset ≡ true
