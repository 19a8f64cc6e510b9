-- A list of final locators in bulk, with the index. Assumes nothing: these are definitions.
use Rattle.std.specs.Prelude.{ℕ, not, List, [], ◌∷◌, ◌++◌}
use Rattle.std.proofs.Math.Option.{Option}
use Rattle.base.specs.Lists.{pick}
use Rattle.base.specs.Le.{Bytes}
use Rattle.base.specs.Checks.{Check, ◌⇒◌, passes, checked}
use Rattle.committee.specs.Committee.{Committee}
use Rattle.record_spec.specs.Reference.{TransactionLocator}
use Rattle.final_spec.specs.Finality.{blocks_of}
use Rattle.final_spec.specs.NextFinal.{next_final_checks}
use Rattle.list_stretches_spec.specs.Stretches.{Listing, FinalStretch, stretches}
use Rattle.list_stretches_spec.specs.Bulk.{given_after, stretch_room, bytes_after, AskedBulk}
use Rattle.index_spec.specs.Index.{index_agrees}

-- 01: "Queries check 5, 10"; 02: "An index that disagrees with the store answers 54": right after them
unfoldable pub indexed_checks : Committee → Bytes → List ℕ → List Check
indexed_checks c s ix = next_final_checks c s ++ ((not (index_agrees (blocks_of s) ix) ⇒ 54) ∷ [])

-- as many stretches of a list over the stored blocks as the slice holds
unfoldable pub list_stretches_indexed : Committee → Bytes → List ℕ → Listing → Bytes → Option TransactionLocator → AskedBulk
list_stretches_indexed c s ix k out after =
    let ts : List FinalStretch = stretches c (blocks_of s) k (stretch_room out) after in
    record {
      answer = checked (indexed_checks c s ix) (given_after k after ts);
      out = pick (passes (indexed_checks c s ix)) (bytes_after ts out) out;
    }
