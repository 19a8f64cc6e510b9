-- A list of final locators with the index, asked for by a host. Assumes nothing: these are definitions.
use Rattle.std.specs.Prelude.{ℕ, true, List, [], ◌∷◌, ◌++◌}
use Rattle.std.proofs.Math.Option.{Option, none, some}
use Rattle.base.specs.Lists.{pick}
use Rattle.base.specs.Le.{Bytes}
use Rattle.base.specs.Checks.{◌⇒◌, refusal, refused}
use Rattle.committee.specs.Committee.{Committee}
use Rattle.record_spec.specs.Reference.{TransactionLocator}
use Rattle.final_spec.specs.Finality.{blocks_of}
use Rattle.list_stretches_spec.specs.Stretches.{Listing, wide}
use Rattle.list_ordinary_spec.specs.Ordinary.{ordinary}
use Rattle.index_list_spec.specs.Indexed.{indexed_checks, list_stretches_indexed}
use Rattle.host_calls.specs.Calls.{committee_of}
use Rattle.host_final_answers.specs.Answers.{after_of, whole_stretches, stretches_number}
use Rattle.host_finals.specs.Stretches.{StretchesCall}

-- the number of a refusal that applies in any case, after 5, 10 and 54
unfoldable pub refusal_indexed : ℕ → Committee → Bytes → List ℕ → ℕ
refusal_indexed n c s ix = refusal (indexed_checks c s ix ++ ((true ⇒ n) ∷ []))

-- the engine's question; the index crosses as words
unfoldable pub stretches_indexed_in : Committee → Bytes → List ℕ → Listing → Option TransactionLocator → Bytes → StretchesCall
stretches_indexed_in c s ix k after out =
    record {
      answer = stretches_number (list_stretches_indexed c s ix k out after).answer;
      stretches = (list_stretches_indexed c s ix k out after).out;
    }

-- 54 before 20 for bytes that are no place, then 40 for bytes that are no whole stretches
unfoldable pub asked_stretches_indexed : Committee → Bytes → List ℕ → Listing → Option (Option TransactionLocator) → Bytes → StretchesCall
asked_stretches_indexed c s ix k none out = record { answer = refused (refusal_indexed 20 c s ix); stretches = out }
asked_stretches_indexed c s ix k (some after) out =
    pick (whole_stretches out) (stretches_indexed_in c s ix k after out) (record { answer = refused (refusal_indexed 40 c s ix); stretches = out })

-- of the ordinary list
unfoldable pub stretches_indexed_call : Bytes → Bytes → List ℕ → Bytes → Bytes → StretchesCall
stretches_indexed_call stakes s ix after out = asked_stretches_indexed (committee_of stakes) s ix (ordinary (committee_of stakes) (blocks_of s))
    (after_of after) out

-- of the wide list
unfoldable pub wide_stretches_indexed_call : Bytes → Bytes → List ℕ → Bytes → Bytes → StretchesCall
wide_stretches_indexed_call stakes s ix after out = asked_stretches_indexed (committee_of stakes) s ix (wide (committee_of stakes) (blocks_of s))
    (after_of after) out
