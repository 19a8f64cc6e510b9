-- Machinery for the contracts of private functions: what stands at a position of a record. Assumes nothing: these are definitions.
use Rattle.std.specs.Prelude.{ℕ, ◌+◌, take, drop}
use Rattle.base.specs.Le.{Bytes, le_at}
use Rattle.record_spec.specs.Reference.{BlockReference, TransactionLocator, locator}

-- the reference at a position
unfoldable pub reference_at : Bytes → ℕ → BlockReference
reference_at s p = record { authority = le_at 8 s p; round = le_at 8 s (p + 8); digest = take 32 (drop (p + 16) s) }

-- the locator at a position
unfoldable pub locator_at : Bytes → ℕ → TransactionLocator
locator_at s p = locator (reference_at s p) (le_at 8 s (p + 48))
