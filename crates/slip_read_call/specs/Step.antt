-- Machinery for the contract of an inner function: the slip that was read with its records. Assumes nothing: these are definitions.
use Rattle.std.specs.Prelude.{ℕ, ◌≡◌, length}
use Rattle.std.proofs.Math.Option.{none, some}
use Rattle.base.specs.Le.{Bytes, le_at}
use Rattle.committee.specs.Committee.{Committee}
use Rattle.slip_spec.specs.Slip.{Slip, read_slip}
use Rattle.slip_spec.specs.Supplied.{supplied_blocks}
use Rattle.slip_spec.specs.Reading.{missing, slip_holds}
use Rattle.slip_read_verdicts.specs.Verdict.{verdict}
use Rattle.std.specs.Prelude.{None, Some, Option}

-- the slip, and what it shows
pub record Shown (c : Committee) (s q : Bytes) (shown : ℕ) : Type 0 where
  pub slip : Slip
  pub reads : read_slip s ≡ some slip
  pub many : length slip.certifiers ≡ le_at 2 s 57
  pub shows : shown ≡ verdict (missing (supplied_blocks q) slip) (slip_holds c (supplied_blocks q) slip)

unfoldable pub Showed : Committee → Bytes → Bytes → Option ℕ → Type 0
Showed c s q (Some shown) = Shown c s q shown
Showed c s q None = read_slip s ≡ none
