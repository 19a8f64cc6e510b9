-- The word of an answer. Assumes nothing.
use mathlib.Core.Path.{◌≡◌}
use Prim.Native.Nat.{ℕ}
use Rattle.base.specs.Le.{Bytes}
use Rattle.base.specs.Checks.{refused}
use Rattle.committee.specs.Committee.{Committee}
use Rattle.slip_spec.specs.Reading.{read_answer}
use Rattle.slip_read_call.specs.Answers.{as_slip_answer}
use Rattle.host_calls.specs.Calls.{encoded}
use Rattle.std.specs.Prelude.{Err, Ok, Result}
use Rattle.base.specs.declared.refusal.Refusal.{Refusal}
use Rattle.base.specs.Refusals.{refusal_number}

module _ (c : Committee) (s q : Bytes) (r : Result ℕ Refusal) (e : as_slip_answer r ≡ read_answer c s q) where
  pub told_number : (n : ℕ) → r ≡ Ok n → n ≡ encoded (read_answer c s q)
  unfolding as_slip_answer encoded
  told_number n h = rw (← e, h)

  pub told_refusal : (n : Refusal) → r ≡ Err n → encoded (refused (refusal_number n)) ≡ encoded (read_answer c s q)
  unfolding as_slip_answer
  told_refusal n h = rw (← e, h)
