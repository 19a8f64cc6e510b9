-- The time of a stored block, asked for by a host. Assumes nothing: these are definitions.
use Rattle.std.specs.Prelude.{ℕ, eqb, length}
use Rattle.std.proofs.Math.Option.{Option, none, some}
use Rattle.base.specs.Lists.{pick}
use Rattle.base.specs.Le.{Bytes, le_bytes}
use Rattle.base.specs.Read.{complete}
use Rattle.base.specs.Checks.{Answer, refused, answered}
use Rattle.committee.specs.Committee.{Committee}
use Rattle.record_spec.specs.Reference.{BlockReference}
use Rattle.record_spec.specs.Record.{read_reference}
use Rattle.store_time.specs.Times.{ask_time}
use Rattle.host_calls.specs.Calls.{committee_of}
use Rattle.host_locators.specs.Locators.{refusal_before}

-- a reference is the 48 bytes that it has in a record; bytes of another length are none
unfoldable pub reference_of : Bytes → Option BlockReference
reference_of b = complete (read_reference b)

-- what the question answers, and the bytes that it was lent for the time afterwards
pub record TimeCall : Type 0 where
  pub answer : Answer ℕ
  pub found : Bytes

-- 1 and the time, or 0 where there is none
unfoldable pub found_in : Bytes → Answer (Option ℕ) → TimeCall
found_in out (answered (some x)) = record { answer = answered 1; found = le_bytes 8 x }
found_in out (answered none) = record { answer = answered 0; found = out }
found_in out (refused n) = record { answer = refused n; found = out }

-- 20 for bytes that are no reference, then 40 for bytes that do not hold a time
unfoldable pub asked_time : Committee → Bytes → Option BlockReference → Bytes → TimeCall
asked_time c s none out = record { answer = refused (refusal_before 20 c s); found = out }
asked_time c s (some r) out =
    pick (eqb (length out) 8) (found_in out (ask_time c s r)) (record { answer = refused (refusal_before 40 c s); found = out })

unfoldable pub creation_time_call : Bytes → Bytes → Bytes → Bytes → TimeCall
creation_time_call stakes s b out = asked_time (committee_of stakes) s (reference_of b) out
