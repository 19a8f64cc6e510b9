-- The lists in bulk, asked for by a host. Assumes nothing: these are definitions.
use Rattle.std.specs.Prelude.{ℕ, true, false}
use Rattle.std.proofs.Math.Option.{Option, none, some}
use Rattle.base.specs.Lists.{pick}
use Rattle.base.specs.Le.{Bytes}
use Rattle.base.specs.Checks.{Answer, refused}
use Rattle.committee.specs.Committee.{Committee}
use Rattle.record_spec.specs.Reference.{TransactionLocator}
use Rattle.final_spec.specs.Finality.{blocks_of}
use Rattle.list_stretches_spec.specs.Stretches.{Listing, wide}
use Rattle.list_stretches_spec.specs.Bulk.{list_stretches}
use Rattle.list_ordinary_spec.specs.Ordinary.{ordinary}
use Rattle.final_readings_spec.specs.Readings.{withdrawing}
use Rattle.list_readings_spec.specs.Lists.{listing}
use Rattle.host_calls.specs.Calls.{committee_of}
use Rattle.host_locators.specs.Locators.{refusal_before}
use Rattle.host_final_answers.specs.Answers.{after_of, whole_stretches, stretches_number}

-- what the question answers, and the bytes that it was lent for the stretches afterwards
pub record StretchesCall : Type 0 where
  pub answer : Answer ℕ
  pub stretches : Bytes

-- the engine's question
unfoldable pub stretches_in : Committee → Bytes → Listing → Option TransactionLocator → Bytes → StretchesCall
stretches_in c s k after out =
    record {
      answer = stretches_number (list_stretches c s k out after).answer;
      stretches = (list_stretches c s k out after).out;
    }

-- 20 for bytes that are no place, then 40 for bytes that are no whole stretches
unfoldable pub asked_stretches : Committee → Bytes → Listing → Option (Option TransactionLocator) → Bytes → StretchesCall
asked_stretches c s k none out = record { answer = refused (refusal_before 20 c s); stretches = out }
asked_stretches c s k (some after) out =
    pick (whole_stretches out) (stretches_in c s k after out) (record { answer = refused (refusal_before 40 c s); stretches = out })

-- of the ordinary list
unfoldable pub stretches_call : Bytes → Bytes → Bytes → Bytes → StretchesCall
stretches_call stakes s after out = asked_stretches (committee_of stakes) s (ordinary (committee_of stakes) (blocks_of s)) (after_of after) out

-- of the wide list
unfoldable pub wide_stretches_call : Bytes → Bytes → Bytes → Bytes → StretchesCall
wide_stretches_call stakes s after out = asked_stretches (committee_of stakes) s (wide (committee_of stakes) (blocks_of s)) (after_of after) out

-- 02: "calls of its own for finality, both lists and slips": of the ordinary list where owners may withdraw
unfoldable pub stretches_withdrawing_call : Bytes → Bytes → Bytes → Bytes → StretchesCall
stretches_withdrawing_call stakes s after out = asked_stretches (committee_of stakes) s (listing true withdrawing (committee_of stakes) (blocks_of s))
    (after_of after) out

-- of the wide list where owners may withdraw
unfoldable pub wide_stretches_withdrawing_call : Bytes → Bytes → Bytes → Bytes → StretchesCall
wide_stretches_withdrawing_call stakes s after out = asked_stretches (committee_of stakes) s (listing false withdrawing (committee_of stakes) (blocks_of s))
    (after_of after) out
