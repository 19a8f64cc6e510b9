-- Machinery for the contracts of the step: replies, runs and locators in words and bytes. Assumes nothing: these are definitions.
use Rattle.std.specs.Prelude.{ℕ, zero, suc, ◌+◌, ◌*◌, ◌<◌, ◌≡◌, true, false, eqb, length, get_or, take, drop}
use mathlib.Core.List.{List, [], ◌∷◌, map, flatten}
use Rattle.base.specs.Le.{Bytes}
use Rattle.committee.specs.Committee.{Committee}
use Rattle.committee_set.specs.AuthoritySet.{AuthoritySet}
use Rattle.record_spec.specs.Reference.{TransactionLocator, locator_before}
use Rattle.record_spec.specs.Block.{Block}
use Rattle.record_reference_bytes.specs.Step.{locator_at}
use Rattle.index_spec.specs.Runs.{Run, run_covers}
use Rattle.index_spec.specs.Part.{RunsOf}
use Rattle.index_spec.specs.Walk as walk
use Rattle.sorted_spec.specs.Sorted.{Reply, reply_words, reply_of, step}
use Rattle.sorted_step.specs.declared.Side.{Side}
use Rattle.sorted_step.specs.declared.Side.TheVariants.{Before, Inside, Past}

-- a locator before a run's start, in it, or at its end or past it
unfoldable pub Beside : Run → TransactionLocator → Side → Type 0
Beside x l Before = walk.Past l.block (l.offset + 1) x.reference x.start
Beside x l Inside = run_covers x l ≡ true
Beside x l Past = walk.Past x.reference x.end l.block l.offset

-- ---- replies in words

-- the reply in the first three words
unfoldable pub reply_from : List ℕ → Reply
reply_from ws = record { final = eqb (get_or ws 0 0) 1; authors = record { low = get_or ws 1 0; high = get_or ws 2 0 } }

-- n replies, one after the other
unfoldable pub replies_from : ℕ → List ℕ → List Reply
replies_from zero ws = []
replies_from (suc n) ws = reply_from ws ∷ replies_from n (drop 3 ws)

-- 02: "in three words each"
unfoldable pub replies_words : List Reply → List ℕ
replies_words qs = flatten (map reply_words qs)

-- the words of the replies after the step of a block, where these were the words before it
unfoldable pub step_words : Committee → Block → List Run → List TransactionLocator → List ℕ → List ℕ
step_words c b part ls ws = replies_words (step c b part ls (replies_from (length ls) ws))

-- the first three words are the reply of the authors that they name
unfoldable pub SettledReply : Committee → List ℕ → Type 0
SettledReply c ws = take 3 ws ≡ reply_words (reply_of c (reply_from ws).authors)

-- the words are n such replies
pub record Settled (c : Committee) (n : ℕ) (ws : List ℕ) : Type 0 where
  pub long : length ws ≡ 3 * n
  pub each : (i : ℕ) → i < n → SettledReply c (drop (3 * i) ws)

-- ---- the list and the part

-- the bytes are those of these locators, which ascend; equal ones may follow each other
pub record Listed (bytes : Bytes) (ls : List TransactionLocator) : Type 0 where
  pub whole : length bytes ≡ 56 * length ls
  pub told : (i : ℕ) → i < length ls → drop i ls ≡ locator_at bytes (56 * i) ∷ drop (i + 1) ls
  pub sorted : (i k : ℕ) → i < k → k < length ls → locator_before (locator_at bytes (56 * k)) (locator_at bytes (56 * i)) ≡ false

-- the words are a run count and as many runs, which are the runs of some voters
pub record PartWords (ws : List ℕ) : Type 0 where
  pub long : length ws ≡ 1 + 10 * get_or ws 0 0
  pub names : TransactionLocator → AuthoritySet
  pub runs : RunsOf names (walk.part_at ws 0)
