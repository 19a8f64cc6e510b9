-- What the question about a time means, as claims. Assumes nothing: these are definitions.
use Rattle.std.specs.Prelude.{◌≡◌, true, false}
use Rattle.std.proofs.Math.Option.{none}
use Rattle.base.specs.Lists.{◌∈◌}
use Rattle.base.specs.Le.{Bytes}
use Rattle.committee.specs.Committee.{Committee}
use Rattle.record_spec.specs.Reference.{BlockReference}
use Rattle.record_spec.specs.Record.{time_in}
use Rattle.store_spec.specs.Layout.{Record}
use Rattle.store_spec.specs.Accept.{is_stored}
use Rattle.store_spec.specs.Store.{records_of, store_in_order}
use Rattle.store_time.specs.Times.{creation_time}

-- 02: "a question by reference gives a stored block's time, or none"
pub record Claims : Type 0 where
  -- the time that each stored record says
  pub stored : (c : Committee) (s : Bytes) → store_in_order c s ≡ true → (r : Record) → r ∈ records_of s → creation_time s r.block.reference ≡ time_in r.bytes
  -- none for a block that is not stored
  pub absent : (s : Bytes) (i : BlockReference) → is_stored (records_of s) i ≡ false → creation_time s i ≡ none
