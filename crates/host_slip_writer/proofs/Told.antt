-- The word of an answer. Assumes nothing.
use mathlib.Core.Path.{◌≡◌}
use Prim.Native.Nat.{ℕ}
use Rattle.base.specs.Le.{Bytes}
use Rattle.base.specs.Checks.{refused}
use Rattle.committee.specs.Committee.{Committee}
use Rattle.final_readings_spec.specs.Readings.{Reading}
use Rattle.slip_write_bytes.specs.Answers.{as_slip_answer}
use Rattle.host_calls.specs.Calls.{committee_of, encoded}
use Rattle.host_locators.specs.Locators.{locator_of}
use Rattle.host_slip_writer.specs.WriteSlip.{asked_slip, write_slip_call}
use Rattle.std.specs.Prelude.{Err, Ok, Result}
use Rattle.base.specs.declared.refusal.Refusal.{Refusal}
use Rattle.base.specs.Refusals.{refusal_number}

-- the call, by the stakes that it holds
pub call_same : (reading : Reading) (stakes s b out : Bytes) (c : Committee) → c ≡ committee_of stakes → asked_slip reading c s (locator_of b) out ≡
    write_slip_call reading stakes s b out
unfolding write_slip_call
call_same reading stakes s b out c h = rw h

module _ (reading : Reading) (stakes s b out : Bytes) (r : Result ℕ Refusal) (e : as_slip_answer r ≡ (write_slip_call reading stakes s b out).answer) where
  pub told_length : (n : ℕ) → r ≡ Ok n → n ≡ encoded (write_slip_call reading stakes s b out).answer
  unfolding as_slip_answer encoded
  told_length n h = rw (← e, h)

  pub told_refusal : (n : Refusal) → r ≡ Err n → encoded (refused (refusal_number n)) ≡ encoded (write_slip_call reading stakes s b out).answer
  unfolding as_slip_answer
  told_refusal n h = rw (← e, h)
