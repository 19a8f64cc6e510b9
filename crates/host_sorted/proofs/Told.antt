-- The word of an answer. Assumes nothing.
use mathlib.Core.Path.{◌≡◌, ap, ◌∙◌}
use mathlib.Core.List.{List}
use Prim.Native.Nat.{ℕ}
use Rattle.base.specs.Le.{Bytes}
use Rattle.base.specs.Checks.{refused}
use Rattle.committee.specs.Committee.{Committee}
use Rattle.sorted_spec.specs.Sorted.{AskedSorted, answer_sorted}
use Rattle.sorted_question.specs.Answers.{as_sorted}
use Rattle.host_calls.specs.Calls.{encoded}
use Rattle.std.specs.Prelude.{Err, Ok, Result}
use Rattle.base.specs.declared.refusal.Refusal.{Refusal}
use Rattle.base.specs.Refusals.{refusal_number}

module _ (c : Committee) (s : Bytes) (ix : List ℕ) (bytes : Bytes) (out : List ℕ) (d : Committee) (h : d ≡ c) where
  -- the call, by the stakes that it holds
  pub call_same : answer_sorted d s ix bytes out ≡ answer_sorted c s ix bytes out
  call_same = rw h

  module _ (r : Result ℕ Refusal) (e : as_sorted r ≡ (answer_sorted d s ix bytes out).answer) where
    same : as_sorted r ≡ (answer_sorted c s ix bytes out).answer
    same = e ∙ ap (λ (x : AskedSorted). x.answer) call_same

    pub told_count : (n : ℕ) → r ≡ Ok n → n ≡ encoded (answer_sorted c s ix bytes out).answer
    unfolding as_sorted encoded
    told_count n k = rw (← same, k)

    pub told_refusal : (n : Refusal) → r ≡ Err n → encoded (refused (refusal_number n)) ≡ encoded (answer_sorted c s ix bytes out).answer
    unfolding as_sorted
    told_refusal n k = rw (← same, k)
