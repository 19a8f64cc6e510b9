-- A sorted list of locators answered in one pass with the index. Assumes nothing: these are definitions.
use Rattle.std.specs.Prelude.{ℕ, ◌-◌, ◌*◌, ◌/◌, Bool, false, not, ltb, length, drop}
use mathlib.Core.List.{List, [], ◌∷◌, ◌++◌, map, flatten}
use Rattle.std.proofs.Math.Option.{Option, none, some}
use Rattle.base.specs.Lists.{pick, pairwise, holds}
use Rattle.base.specs.Checks.{Check, ◌⇒◌, passes, Answer, checked}
use Rattle.base.specs.Le.{Bytes}
use Rattle.base.specs.Read.{repeated, complete}
use Rattle.committee.specs.Committee.{Committee, broken, is_quorum}
use Rattle.committee_set.specs.AuthoritySet.{AuthoritySet, nobody, inserted, set_of, stake_of}
use Rattle.record_spec.specs.Reference.{TransactionLocator, locator_before}
use Rattle.record_spec.specs.Block.{Block, author}
use Rattle.record_spec.specs.Record.{read_locator}
use Rattle.store_spec.specs.Store.{store_in_order}
use Rattle.final_spec.specs.Voters.{certifiers, is_final}
use Rattle.final_spec.specs.Finality.{blocks_of}
use Rattle.index_spec.specs.Runs.{Run}
use Rattle.index_spec.specs.Certified.{part_certifies}
use Rattle.index_spec.specs.Index.{Indexed, indexed, index_agrees}

-- 02: "1 if final, else 0, and its certifiers' authors low and high"
pub record Reply : Type 0 where
  pub final : Bool
  pub authors : AuthoritySet

unfoldable pub reply_words : Reply → List ℕ
reply_words q = pick q.final 1 0 ∷ q.authors.low ∷ q.authors.high ∷ []

-- 02: "as the single question finds them"
unfoldable pub single_reply : Committee → List Block → TransactionLocator → Reply
single_reply c bs l = record { final = is_final c bs l; authors = set_of (map author (certifiers c bs l)) }

-- before any block
unfoldable pub no_reply : Reply
no_reply = record { final = false; authors = nobody }

-- the reply of these authors
unfoldable pub reply_of : Committee → AuthoritySet → Reply
reply_of c as' = record { final = is_quorum c (stake_of c as'); authors = as' }

unfoldable pub step_reply : Committee → Block → List Run → TransactionLocator → Reply → Reply
step_reply c b part l q = pick (part_certifies c b part l) (reply_of c (inserted q.authors (author b))) q

-- 02: "It takes one step for each stored block in order of arrival, which gets that block, its index part, the committee, the list and the
-- replies so far and nothing else"
unfoldable pub step : Committee → Block → List Run → List TransactionLocator → List Reply → List Reply
step c b part [] qs = []
step c b part (l ∷ ls) [] = []
step c b part (l ∷ ls) (q ∷ qs) = step_reply c b part l q ∷ step c b part ls qs

-- the replies after the steps of some blocks with their parts, the newest first
unfoldable pub replies_after : Committee → List TransactionLocator → List Indexed → List Reply
replies_after c ls [] = map (λ l. no_reply) ls
replies_after c ls (x ∷ older) = step c x.block x.runs ls (replies_after c ls older)

-- the first k of some stored blocks in order of arrival, the newest first
unfoldable pub first_blocks : ℕ → List Block → List Block
first_blocks k bs = drop (length bs - k) bs

-- 02: "answer a sorted list of locators .., equal locators included"
unfoldable pub sorted_locators : List TransactionLocator → Bool
sorted_locators ls = pairwise (λ l m. not (locator_before m l)) ls

-- ---- the question

-- 02: "whose bytes are not whole 56-byte locators": none
unfoldable pub locators_of : Bytes → Option (List TransactionLocator)
locators_of bytes = complete (repeated (length bytes / 56) read_locator bytes)

unfoldable pub list_of : Option (List TransactionLocator) → List TransactionLocator
list_of none = []
list_of (some ls) = ls

-- the locators, where they are whole
unfoldable pub asked : Bytes → List TransactionLocator
asked bytes = list_of (locators_of bytes)

-- 02: "An unsorted list, or one whose bytes are not whole 56-byte locators, answers 62 and a reply slice too short 63, in that order after 54"
unfoldable pub sorted_checks : Committee → Bytes → List ℕ → Bytes → List ℕ → List Check
sorted_checks c s ix bytes out =
    (broken c ⇒ 5)
    ∷ (not (store_in_order c s) ⇒ 10)
    ∷ (not (index_agrees (blocks_of s) ix) ⇒ 54)
    ∷ (not (holds sorted_locators (locators_of bytes)) ⇒ 62)
    ∷ (ltb (length out) (3 * length (asked bytes)) ⇒ 63)
    ∷ []

-- what the question answers, the number of locators, and the slice that it was lent afterwards
pub record AskedSorted : Type 0 where
  pub answer : Answer ℕ
  pub out : List ℕ

-- 02: "in three words each"; the words past them keep their content
unfoldable pub answer_sorted : Committee → Bytes → List ℕ → Bytes → List ℕ → AskedSorted
answer_sorted c s ix bytes out =
    let replies : List Reply = replies_after c (asked bytes) (indexed (blocks_of s)) in
    record {
      answer = checked (sorted_checks c s ix bytes out) (length (asked bytes));
      out = pick (passes (sorted_checks c s ix bytes out)) (flatten (map reply_words replies) ++ drop (3 * length (asked bytes)) out) out;
    }
