-- What the bytes of a stretch are, as claims. Assumes nothing: these are definitions.
use Rattle.std.specs.Prelude.{◌≡◌, true, length, take}
use Rattle.record_spec.specs.Reference.{locator}
use Rattle.record_spec.specs.Record.{locator_bytes}
use Rattle.record_spec.specs.Claims.{are_bytes}
use Rattle.list_stretches_spec.specs.Stretches.{FinalStretch}
use Rattle.list_stretches_spec.specs.Bulk.{stretch_bytes}

pub record Claims : Type 0 where
  -- a stretch is 80 bytes
  pub eighty : (t : FinalStretch) → length (stretch_bytes t) ≡ 80
  -- of which the first 56 are its first locator, as it stands in a record: a host may ask on with them
  pub first_locator : (t : FinalStretch) → are_bytes t.block.digest ≡ true → length t.block.digest ≡ 32
      → take 56 (stretch_bytes t) ≡ locator_bytes (locator t.block t.first)
