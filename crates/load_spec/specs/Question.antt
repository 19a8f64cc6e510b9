-- The two questions over a store, in either reading of a reject. Assumes nothing: these are definitions.
use Rattle.std.specs.Prelude.{ℕ, zero, suc, ◌*◌, ◌/◌, Bool, not, ltb, length, drop, get_or}
use mathlib.Core.List.{List, [], ◌∷◌, ◌++◌, map, flatten}
use Rattle.base.specs.Lists.{pick}
use Rattle.base.specs.Le.{Bytes}
use Rattle.base.specs.Checks.{Check, ◌⇒◌, passes, Answer, checked}
use Rattle.committee.specs.Committee.{Committee, broken}
use Rattle.record_spec.specs.Reference.{TransactionLocator, locator}
use Rattle.store_spec.specs.Layout.{Entry, entries, position_of, lookup}
use Rattle.store_spec.specs.Store.{records_of, store_in_order}
use Rattle.store_spec.specs.Entry.{block_at}
use Rattle.final_spec.specs.Finality.{blocks_of}
use Rattle.final_spec.specs.NextFinal.{next_final_checks}
use Rattle.final_readings_spec.specs.Readings.{Reading}
use Rattle.list_ordinary_spec.specs.Shares.{stored_shares}
use Rattle.load_spec.specs.Loadable.{is_loadable_in, loadable_list_in}

-- 02: "Give yes or no for a locator"; 5, 10
unfoldable pub loadable_question_in : Reading → Committee → Bytes → TransactionLocator → Answer Bool
loadable_question_in reading c s l = checked (next_final_checks c s) (is_loadable_in reading c (blocks_of s) l)

-- 02: "entry position and offset a place"
unfoldable pub place_words : List Entry → TransactionLocator → List ℕ
place_words es l = position_of (lookup es l.block) ∷ l.offset ∷ []

-- the locators that the first n places of a slice name
unfoldable pub named_by : Bytes → ℕ → List ℕ → List TransactionLocator
named_by s zero ps = []
named_by s (suc n) ps = locator (block_at s (get_or ps 0 0)).reference (get_or ps 1 0) ∷ named_by s n (drop 2 ps)

-- 02: "A list slice .. with fewer places than there are stored shares answers 58, after 10": an odd last word is no place
unfoldable pub list_checks : Committee → Bytes → List ℕ → List Check
list_checks c s ps =
    (broken c ⇒ 5)
    ∷ (not (store_in_order c s) ⇒ 10)
    ∷ (ltb (length ps / 2) (length (stored_shares (blocks_of s))) ⇒ 58)
    ∷ []

-- what the question answers, and the slice that it was lent afterwards
pub record AskedList : Type 0 where
  pub answer : Answer ℕ
  pub places : List ℕ

-- the number of places, and the places; words past them keep their content
unfoldable pub loadable_questions_in : Reading → Committee → Bytes → List ℕ → AskedList
loadable_questions_in reading c s ps =
    let found : List TransactionLocator = loadable_list_in reading c (blocks_of s) in
    record {
      answer = checked (list_checks c s ps) (length found);
      places = pick (passes (list_checks c s ps)) (flatten (map (place_words (entries (records_of s))) found) ++ drop (2 * length found) ps) ps;
    }
