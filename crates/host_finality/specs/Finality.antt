-- The finality question of a host, in either reading. Assumes nothing: these are definitions.
use Rattle.std.specs.Prelude.{ℕ, ◌+◌, ◌*◌, ◌≤◌, eqb, length, Err, Ok, Result}
use Rattle.std.proofs.Math.Option.{Option, none, some}
use Rattle.base.specs.Lists.{pick}
use Rattle.base.specs.Le.{Bytes}
use Rattle.base.specs.Checks.{Answer, refused, answered}
use Rattle.committee.specs.Committee.{Committee}
use Rattle.record_spec.specs.Reference.{TransactionLocator}
use Rattle.words.specs.Words.{words_of, bytes_of}
use Rattle.final_spec.specs.Finality.{Finality}
use Rattle.final_readings_spec.specs.Readings.{Reading}
use Rattle.final_readings_spec.specs.Finality.{finality_in}
use Rattle.host_calls.specs.Calls.{committee_of}
use Rattle.host_locators.specs.Locators.{locator_of, refusal_before}
use Rattle.base.specs.declared.refusal.Refusal.{Refusal}
use Rattle.base.specs.Refusals.{refusal_number}
use Rattle.final_question.specs.declared.FinalOrNot.{FinalOrNot}
use Rattle.final_question.specs.declared.FinalOrNot.TheVariants.{Final, NotFinal}

-- what the question answers, and the position bytes that it was lent afterwards
pub record FinalityCall : Type 0 where
  pub answer : Answer ℕ
  pub positions : Bytes

-- 2 · number of certifying blocks, and 1 more where the locator is final
unfoldable pub finality_number : Answer Finality → Answer ℕ
finality_number (answered f) = answered (2 * f.certifying + pick f.final 1 0)
finality_number (refused n) = refused n

-- 01: "a table, events or positions (1,024) not of `listing`'s size 11, 15 or 40 in place"
unfoldable pub finality_of : Reading → Committee → Bytes → Bytes → TransactionLocator → FinalityCall
finality_of reading c s ps l =
    pick (eqb (length ps) 8192)
    (record {
      answer = finality_number (finality_in reading c s (words_of ps) l).answer;
      positions = bytes_of (finality_in reading c s (words_of ps) l).positions;
    })
    (record { answer = refused (refusal_before 40 c s); positions = ps })

unfoldable pub asked_finality : Reading → Committee → Bytes → Bytes → Option TransactionLocator → FinalityCall
asked_finality reading c s ps none = record { answer = refused (refusal_before 20 c s); positions = ps }
asked_finality reading c s ps (some l) = finality_of reading c s ps l

unfoldable pub finality_call : Reading → Bytes → Bytes → Bytes → Bytes → FinalityCall
finality_call reading stakes s ps b = asked_finality reading (committee_of stakes) s ps (locator_of b)

-- machinery for the contracts of private functions: counts and numbers that leave room for the answer's word
abbrev pub numbers_fit : Result FinalOrNot Refusal → Type 0
numbers_fit (Ok (Final n)) = n ≤ 1024
numbers_fit (Ok (NotFinal n)) = n ≤ 1024
numbers_fit (Err r) = refusal_number r ≤ 41
