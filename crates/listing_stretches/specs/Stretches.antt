-- Stretches of a list in bulk as they are read from their bytes. Machinery for the contracts of inner functions. Assumes nothing: these are definitions.
use Rattle.std.specs.Prelude.{ℕ, zero, suc, ◌+◌, ◌-◌, ◌*◌, ◌<◌, ◌≡◌}
use Rattle.std.proofs.Math.Option.{Option, some}
use Rattle.base.specs.Le.{Bytes, le_at}
use Rattle.record_spec.specs.Reference.{TransactionLocator, locator}
use Rattle.record_reference_bytes.specs.Step.{reference_at}
use Rattle.listing_lines.specs.Lines.{head_of}
use Rattle.listing_final_lines.specs.declared.Stretch.{Stretch}

-- the stretch whose 80 bytes stand at a position
pub record ReadStretch (b : Bytes) (p : ℕ) (t : Stretch) : Type 0 where
  pub round : t.round ≡ (reference_at b p).round
  pub author : t.author ≡ (reference_at b p).authority
  pub head : t.head ≡ head_of (reference_at b p).digest
  pub first : t.first ≡ le_at 8 b (p + 48)
  pub lines : t.lines ≡ le_at 8 b (p + 56) - le_at 8 b (p + 48)
  pub blocks : t.blocks ≡ le_at 8 b (p + 64)
  pub stake : t.stake ≡ le_at 8 b (p + 72)
  pub inside : t.first + t.lines < 18446744073709551616

-- the last locator of n stretches, or the one given where there are none
unfoldable pub last_of : Bytes → ℕ → Option TransactionLocator → Option TransactionLocator
last_of b zero after = after
last_of b (suc n) after = some (locator (reference_at b (80 * n)) (le_at 8 b (80 * n + 56) - 1))
