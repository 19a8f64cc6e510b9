-- 02: "Feeding and finality do not look at payloads", as claims. Assumes nothing: these are definitions.
use Rattle.std.specs.Prelude.{ℕ, ◌≡◌, Bool, true, List, map}
use Rattle.base.specs.Le.{Bytes}
use Rattle.committee.specs.Committee.{Committee}
use Rattle.record_spec.specs.Reference.{TransactionLocator}
use Rattle.record_spec.specs.Block.{Block}
use Rattle.record_spec.specs.Record.{Timed, edition_for, timed_bytes}
use Rattle.record_spec.specs.Claims.{fits_in}
use Rattle.store_spec.specs.Layout.{Entry}
use Rattle.pending_spec.specs.Items.{Item}
use Rattle.feed_spec.specs.ProcessBlock.{process_block}
use Rattle.feed_spec.specs.Pending.{pending}
use Rattle.feed_spec.specs.Feed.{Lent, Fed, feed}
use Rattle.final_readings_spec.specs.Readings.{Reading}
use Rattle.final_readings_spec.specs.Finality.{finality_in}
use Rattle.load_spec.specs.Needs.{without_payloads}
use Rattle.mission_theorems.specs.Feeds.{fresh}
use Rattle.mission_theorems.specs.ThirdStatement.{Start, engine_of}
use Rattle.engine_theorems.specs.Claims.{SameAnswers}
use Rattle.payload_theorems.specs.Apart.{Apart, with_blanks, HeldApart, LentApart, StartApart, tell, told}

-- ---- a block counted

-- a stored entry without its payloads: where it stands, and the rest of its block
pub record Seen : Type 0 where
  pub position : ℕ
  pub block : Block

unfoldable pub seen : Entry → Seen
seen e = record { position = e.position; block = without_payloads e.block }

-- over entries that differ in payloads alone, blocks that differ in payloads alone leave the same items and have the same events
unfoldable pub FeedingUnseen : Type 0
FeedingUnseen = (c : Committee) (es ds : List Entry) (b d : Block) (xs : List Item) → map seen es ≡ map seen ds → without_payloads b ≡ without_payloads d
    → process_block c es b xs ≡ process_block c ds d xs

-- ---- records fed

-- blocks that differ in the bytes of payloads alone, written with the same time or none, are records of the kind that the claims speak of
unfoldable pub WrittenApart : Type 0
WrittenApart = (t u : Timed) → fits_in (edition_for t.time) t ≡ true → fits_in (edition_for u.time) u ≡ true
    → t.time ≡ u.time → with_blanks t.block ≡ with_blanks u.block → Apart (timed_bytes t) (timed_bytes u)

-- two feeds answer, count and write the same; their stores differ in payloads alone
pub record SameFed (c : Committee) (f g : Fed) : Type 0 where
  pub told : tell f ≡ tell g
  pub store : HeldApart c f.store g.store

-- 02: "Feeding .. do[es] not look at payloads", checks and event room included
unfoldable pub FeedUnseen : Type 0
FeedUnseen = (c : Committee) (m n : Lent) (r q : Bytes) → LentApart c m n → Apart r q → SameFed c (feed c m r) (feed c n q)

-- ---- questions

-- 02: ".. and finality": in either reading, every answer and every word written; the pending question too
pub record SameQuestions (c : Committee) (s r : Bytes) : Type 0 where
  pub finality : (reading : Reading) (ps : List ℕ) (l : TransactionLocator) → finality_in reading c s ps l ≡ finality_in reading c r ps l
  pub lists : (ordinary : Bool) (reading : Reading) → SameAnswers ordinary reading c s r
  pub pending : (t : List ℕ) (l : TransactionLocator) → pending c s t l ≡ pending c r t l

unfoldable pub QuestionsUnseen : Type 0
QuestionsUnseen = (c : Committee) (s r : Bytes) → HeldApart c s r → SameQuestions c s r

-- ---- lists of feeds

-- each feed on the way tells the same, and each question afterwards
pub record SameCounts (c : Committee) (t u : Start) : Type 0 where
  pub told : told c (fresh t.past t.words) t.feeds ≡ told c (fresh u.past u.words) u.feeds
  pub table : (engine_of c t).table ≡ (engine_of c u).table
  pub store : HeldApart c (engine_of c t).store (engine_of c u).store
  pub questions : SameQuestions c (engine_of c t).store (engine_of c u).store

unfoldable pub ListsUnseen : Type 0
ListsUnseen = (c : Committee) (t u : Start) → StartApart t u → SameCounts c t u

pub record Claims : Type 0 where
  pub feeding : FeedingUnseen
  pub written : WrittenApart
  pub feed : FeedUnseen
  pub questions : QuestionsUnseen
  pub lists : ListsUnseen
