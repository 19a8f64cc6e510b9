-- The questions about loadable shares, for a host, in either reading of a reject. Assumes nothing: these are definitions.
use Rattle.std.specs.Prelude.{ℕ, Bool, List}
use Rattle.base.specs.Le.{Bytes}
use Rattle.base.specs.Checks.{Answer, refused, answered}
use Rattle.committee.specs.Committee.{Committee}
use Rattle.final_readings_spec.specs.Readings.{Reading}
use Rattle.load_spec.specs.Question.{AskedList, loadable_question_in, loadable_questions_in}
use Rattle.host_calls.specs.Calls.{flag, committee_of}
use Rattle.host_locators.specs.Locators.{locator_of, asked}

-- yes as 1, no as 0
unfoldable pub flagged : Answer Bool → Answer ℕ
flagged (answered t) = answered (flag t)
flagged (refused n) = refused n

-- 02: "Give yes or no for a locator": 5, 10, 20 for bytes that are no locator
unfoldable pub is_loadable_call : Reading → Bytes → Bytes → Bytes → Answer ℕ
is_loadable_call reading stakes s b =
    let c : Committee = committee_of stakes in
    flagged (asked c s (loadable_question_in reading c s) (locator_of b))

-- 02: "the list of all loadable stored shares": 5, 10, 58; the places cross as words
unfoldable pub loadable_call : Reading → Bytes → Bytes → List ℕ → AskedList
loadable_call reading stakes s ps = loadable_questions_in reading (committee_of stakes) s ps
