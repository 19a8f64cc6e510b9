-- Machinery for the contracts of inner functions: the slip of the certifying blocks at some positions, and a slice with it in front. Assumes nothing:
-- these are definitions.
use Rattle.std.specs.Prelude.{ℕ, List, ◌++◌, map, ltb, length, drop}
use Rattle.base.specs.Lists.{pick}
use Rattle.base.specs.Le.{Bytes}
use Rattle.base.specs.Checks.{refused, answered}
use Rattle.record_spec.specs.Reference.{TransactionLocator}
use Rattle.store_spec.specs.Entry.{block_at}
use Rattle.final_spec.specs.Finality.{blocks_of}
use Rattle.final_readings_spec.specs.Readings.{Reading}
use Rattle.slip_spec.specs.Slip.{Slip}
use Rattle.slip_spec.specs.Writing.{certifier_of, Written}

-- the slip of the certifying blocks at some positions, in a reading
unfoldable pub slip_at : Reading → Bytes → TransactionLocator → List ℕ → Slip
slip_at reading s l ps = record { reading = reading; locator = l; certifiers = map (certifier_of reading (blocks_of s) l) (map (block_at s) ps) }

-- 02: "50 for a short slice"; else the bytes in front, and bytes past them stay
unfoldable pub written_over : Bytes → Bytes → Written
written_over bytes out =
    record {
      answer = pick (ltb (length out) (length bytes)) (refused 50) (answered (length bytes));
      out = pick (ltb (length out) (length bytes)) out (bytes ++ drop (length bytes) out);
    }
