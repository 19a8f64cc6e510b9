-- The finality question in both readings. Assumes nothing: these are definitions.
use Rattle.std.specs.Prelude.{ℕ, List, ◌++◌, map, length, drop}
use Rattle.base.specs.Lists.{pick, keep}
use Rattle.base.specs.Le.{Bytes}
use Rattle.base.specs.Checks.{passes, checked}
use Rattle.committee.specs.Committee.{Committee}
use Rattle.record_spec.specs.Reference.{TransactionLocator}
use Rattle.store_spec.specs.Layout.{entries, ascending}
use Rattle.store_spec.specs.Store.{records_of}
use Rattle.final_spec.specs.Finality.{blocks_of, Asked, finality_checks}
use Rattle.final_readings_spec.specs.Readings.{Reading, certifies_in, is_final_in}

-- 01: "certifying blocks and their positions, one word each, in ascending reference order"
unfoldable pub certifying_positions_in : Reading → Committee → Bytes → TransactionLocator → List ℕ
certifying_positions_in reading c s l = map (λ e. e.position) (keep (λ e. certifies_in reading c (blocks_of s) l e.block) (ascending (entries (records_of s))))

-- 02: "This second reading is chosen by calls of its own for finality", with the old one's checks: 5, 10, 40
unfoldable pub finality_in : Reading → Committee → Bytes → List ℕ → TransactionLocator → Asked
finality_in reading c s ps l =
    let found : List ℕ = certifying_positions_in reading c s l in
    record {
      answer = checked (finality_checks c s ps) (record { final = is_final_in reading c (blocks_of s) l; certifying = length found });
      positions = pick (passes (finality_checks c s ps)) (found ++ drop (length found) ps) ps;
    }
