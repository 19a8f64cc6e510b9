-- The word of an answer. Assumes nothing.
use mathlib.Core.Path.{◌≡◌}
use mathlib.Core.List.{List}
use mathlib.Core.Option.{Option}
use Prim.Native.Nat.{ℕ}
use Rattle.base.specs.Checks.{refused}
use Rattle.draft_spec.specs.Draft.{Request}
use Rattle.draft_spec.specs.Writing.{write_timed}
use Rattle.draft_writer.specs.Answers.{as_write_answer}
use Rattle.host_calls.specs.Calls.{encoded}
use Rattle.std.specs.Prelude.{Err, Ok, Result}
use Rattle.base.specs.declared.refusal.Refusal.{Refusal}
use Rattle.base.specs.Refusals.{refusal_number}

-- ---- the word of an answer

module _ (o : Option ℕ) (q : Request) (out : List ℕ) (r : Result ℕ Refusal) (e : as_write_answer r ≡ (write_timed o q out).answer) where
  pub told_length : (n : ℕ) → r ≡ Ok n → n ≡ encoded (write_timed o q out).answer
  unfolding as_write_answer encoded
  told_length n h = rw (← e, h)

  pub told_refusal : (n : Refusal) → r ≡ Err n → encoded (refused (refusal_number n)) ≡ encoded (write_timed o q out).answer
  unfolding as_write_answer
  told_refusal n h = rw (← e, h)
