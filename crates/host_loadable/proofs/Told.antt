-- The words of the answers. Assumes nothing.
use mathlib.Core.Path.{◌≡◌, ap, ◌∙◌}
use mathlib.Core.List.{List}
use Prim.Native.Nat.{ℕ}
use Rattle.base.specs.Le.{Bytes}
use Rattle.base.specs.Checks.{refused}
use Rattle.committee.specs.Committee.{Committee}
use Rattle.final_readings_spec.specs.Readings.{Reading}
use Rattle.load_spec.specs.Question.{loadable_question_in, loadable_questions_in}
use Rattle.load_question.specs.Answers.{as_loadable}
use Rattle.load_list.specs.Answers.{as_loadable_list}
use Rattle.host_calls.specs.Calls.{flag, committee_of, encoded}
use Rattle.host_locators.specs.Locators.{locator_of, asked}
use Rattle.host_loadable.specs.Loading.{flagged, is_loadable_call, loadable_call}
use Rattle.std.specs.Prelude.{Bool, true, false, Err, Ok, Result}
use Rattle.base.specs.declared.refusal.Refusal.{Refusal}
use Rattle.base.specs.Refusals.{refusal_number}

-- ---- yes or no

module _ (reading : Reading) (stakes s b : Bytes) (c : Committee) (h : c ≡ committee_of stakes) (r : Result Bool Refusal)
    (e : as_loadable r ≡ asked c s (loadable_question_in reading c s) (locator_of b)) where
  same_call : flagged (as_loadable r) ≡ is_loadable_call reading stakes s b
  unfolding is_loadable_call
  same_call = ap flagged e ∙ ap (λ (d : Committee). flagged (asked d s (loadable_question_in reading d s) (locator_of b))) h

  pub told_yes : r ≡ (Ok true) → 1 ≡ encoded (is_loadable_call reading stakes s b)
  unfolding as_loadable encoded flagged flag
  told_yes k = rw (← same_call, k)

  pub told_no : r ≡ (Ok false) → 0 ≡ encoded (is_loadable_call reading stakes s b)
  unfolding as_loadable encoded flagged flag
  told_no k = rw (← same_call, k)

  pub told_refusal : (n : Refusal) → r ≡ Err n → encoded (refused (refusal_number n)) ≡ encoded (is_loadable_call reading stakes s b)
  unfolding as_loadable flagged
  told_refusal n k = rw (← same_call, k)

-- ---- the list

pub list_same : (reading : Reading) (stakes s : Bytes) (ps : List ℕ) (c : Committee) → c ≡ committee_of stakes → loadable_questions_in reading c s ps ≡
    loadable_call reading stakes s ps
unfolding loadable_call
list_same reading stakes s ps c h = rw h

module _ (reading : Reading) (stakes s : Bytes) (ps : List ℕ) (r : Result ℕ Refusal) (e : as_loadable_list r ≡ (loadable_call reading stakes s ps).answer)
  where
    pub told_number : (n : ℕ) → r ≡ Ok n → n ≡ encoded (loadable_call reading stakes s ps).answer
    unfolding as_loadable_list encoded
    told_number n k = rw (← e, k)

    pub told_denied : (n : Refusal) → r ≡ Err n → encoded (refused (refusal_number n)) ≡ encoded (loadable_call reading stakes s ps).answer
    unfolding as_loadable_list
    told_denied n k = rw (← e, k)
