-- What the replies to a sorted list of locators mean, as claims. Assumes nothing: these are definitions.
use Rattle.std.specs.Prelude.{ℕ, ◌*◌, ◌≡◌, true, length, drop}
use mathlib.Core.List.{List, ◌++◌, map, flatten}
use Rattle.base.specs.Le.{Bytes}
use Rattle.base.specs.Checks.{passes}
use Rattle.committee.specs.Committee.{Committee}
use Rattle.record_spec.specs.Reference.{TransactionLocator}
use Rattle.record_spec.specs.Block.{Block}
use Rattle.final_spec.specs.Finality.{blocks_of}
use Rattle.final_spec.specs.Claims.{Stored}
use Rattle.index_spec.specs.Index.{indexed}
use Rattle.sorted_spec.specs.Sorted.{reply_words, single_reply, replies_after, asked, sorted_checks, answer_sorted}

-- 02: "after k steps these are the replies for the first k blocks alone", "as the single question finds them"
unfoldable pub StepsMeant : Type 0
StepsMeant = (c : Committee) (newer older : List Block) → Stored c (newer ++ older) → (ls : List TransactionLocator)
    → replies_after c ls (drop (length newer) (indexed (newer ++ older))) ≡ map (single_reply c older) ls

-- at the end, for all blocks
unfoldable pub RepliesMeant : Type 0
RepliesMeant = (c : Committee) (bs : List Block) → Stored c bs → (ls : List TransactionLocator) → replies_after c ls (indexed bs) ≡ map (single_reply c bs) ls

-- what the question writes where nothing refuses it: "in three words each", "as the single question finds them, equal locators included"
unfoldable pub QuestionMeant : Type 0
QuestionMeant = (c : Committee) (s : Bytes) (ix : List ℕ) (bytes : Bytes) (out : List ℕ) → passes (sorted_checks c s ix bytes out) ≡ true
    → (answer_sorted c s ix bytes out).out ≡ flatten (map reply_words (map (single_reply c (blocks_of s)) (asked bytes))) ++ drop (3 * length (asked bytes)) out

pub record Claims : Type 0 where
  pub steps : StepsMeant
  pub replies : RepliesMeant
  pub question : QuestionMeant
