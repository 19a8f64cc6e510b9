-- The next locator of a list of final ones, asked for by a host. Assumes nothing: these are definitions.
use Rattle.std.specs.Prelude.{true, false, eqb, length}
use Rattle.std.proofs.Math.Option.{Option, none, some}
use Rattle.base.specs.Lists.{pick}
use Rattle.base.specs.Le.{Bytes}
use Rattle.base.specs.Checks.{refused}
use Rattle.committee.specs.Committee.{Committee}
use Rattle.record_spec.specs.Reference.{TransactionLocator}
use Rattle.final_spec.specs.Finality.{blocks_of}
use Rattle.list_stretches_spec.specs.Stretches.{Listing, wide}
use Rattle.list_stretches_spec.specs.Bulk.{list_next}
use Rattle.list_ordinary_spec.specs.Ordinary.{ordinary}
use Rattle.final_readings_spec.specs.Readings.{withdrawing}
use Rattle.list_readings_spec.specs.Lists.{listing}
use Rattle.host_calls.specs.Calls.{committee_of}
use Rattle.host_locators.specs.Locators.{refusal_before}
use Rattle.host_final_answers.specs.Answers.{after_of, NextFinalCall, found_in}

-- 20 for bytes that are no place, then 40 for bytes that do not hold a locator
unfoldable pub asked_next_final : Committee → Bytes → Listing → Option (Option TransactionLocator) → Bytes → NextFinalCall
asked_next_final c s k none out = record { answer = refused (refusal_before 20 c s); found = out }
asked_next_final c s k (some after) out =
    pick (eqb (length out) 56) (found_in out (list_next c s k after)) (record { answer = refused (refusal_before 40 c s); found = out })

-- of the ordinary list
unfoldable pub next_final_call : Bytes → Bytes → Bytes → Bytes → NextFinalCall
next_final_call stakes s after out = asked_next_final (committee_of stakes) s (ordinary (committee_of stakes) (blocks_of s)) (after_of after) out

-- of the wide list
unfoldable pub next_wide_call : Bytes → Bytes → Bytes → Bytes → NextFinalCall
next_wide_call stakes s after out = asked_next_final (committee_of stakes) s (wide (committee_of stakes) (blocks_of s)) (after_of after) out

-- 02: "calls of its own for finality, both lists and slips": of the ordinary list where owners may withdraw
unfoldable pub next_final_withdrawing_call : Bytes → Bytes → Bytes → Bytes → NextFinalCall
next_final_withdrawing_call stakes s after out = asked_next_final (committee_of stakes) s (listing true withdrawing (committee_of stakes) (blocks_of s))
    (after_of after) out

-- of the wide list where owners may withdraw
unfoldable pub next_wide_withdrawing_call : Bytes → Bytes → Bytes → Bytes → NextFinalCall
next_wide_withdrawing_call stakes s after out = asked_next_final (committee_of stakes) s (listing false withdrawing (committee_of stakes) (blocks_of s))
    (after_of after) out
