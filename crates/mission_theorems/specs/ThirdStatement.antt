-- The mission's third statement, as one claim about every list of feeds from a fresh engine. Assumes nothing: these are definitions.
use Rattle.std.specs.Prelude.{ℕ, ◌+◌, ◌≤◌, ◌<◌, ◌≡◌, ◌↔◌, Bool, true, false, List, [], ◌∷◌, ◌++◌, length}
use Rattle.base.specs.Lists.{pairwise, ◌∈◌}
use Rattle.base.specs.Le.{Bytes}
use Rattle.base.specs.Checks.{refused, answered}
use Rattle.committee.specs.Committee.{Committee, broken}
use Rattle.record_spec.specs.Reference.{TransactionLocator, locator_before}
use Rattle.record_spec.specs.Block.{Block}
use Rattle.store_spec.specs.Shares.{is_stored_share, StoredShare}
use Rattle.feed_spec.specs.Pending.{Standing, pending}
use Rattle.final_spec.specs.Ancestry.{VoteIn, Final}
use Rattle.final_spec.specs.Finality.{finality}
use Rattle.final_spec.specs.NextFinal.{FinalList}
use Rattle.list_ordinary_spec.specs.FinalShares.{FinalShareList}
use Rattle.mission_theorems.specs.Feeds.{Feed, Engine, fresh, run, Accepted, accepted, stored_blocks, stored_records}
use Rattle.mission_theorems.specs.Shares.{Place, Vote, counted_votes, counted_voters, LeftQuorum, NoneLeft, Tally, announcements}

-- the finality question, with a position slice that is long enough, is answered, and final exactly where the relation says so
pub record AnsweredFinal (c : Committee) (g : Engine) (bs : List Block) (l : TransactionLocator) (ps : List ℕ) : Type 0 where
  pub final : Bool
  pub certifying : ℕ
  pub answer : (finality c g.store ps l).answer ≡ answered (record { final = final; certifying = certifying })
  pub exactly : (final ≡ true) ↔ Final c bs l

-- the wide list, asked on from the start until none, is given
pub record GivesFinal (c : Committee) (g : Engine) (bs : List Block) : Type 0 where
  pub list : List TransactionLocator
  pub given : FinalList c g.store list
  pub exactly : (l : TransactionLocator) → (l ∈ list) ↔ Final c bs l
  pub ascending : pairwise locator_before list ≡ true

-- the ordinary list likewise
pub record GivesFinalShares (c : Committee) (g : Engine) (bs : List Block) : Type 0 where
  pub shares : List TransactionLocator
  pub given : FinalShareList c g.store shares
  pub exactly : (l : TransactionLocator) → (l ∈ shares) ↔ (StoredShare bs l × Final c bs l)
  pub ascending : pairwise locator_before shares ≡ true

-- a stored share stands in one of two ways, and not in both: the pending question is answered in one and refused in the other
pub data ShareStands (c : Committee) (g : Engine) (as' : List Accepted) (l : TransactionLocator) : Type 0 where
  -- "is pending, with the stake and number of its counted voters, exactly when no counted vote left these with quorum stake"
  stays : (st : Standing) → NoneLeft c l (counted_votes as' l) → Tally c (counted_voters l (counted_votes as' l)) st
      → pending c g.store g.table l ≡ answered st → announcements as' l ≡ [] → ShareStands c g as' l
  -- "else the first that did, and no other, announced it as processed, once"
  gone : (earlier : List Vote) (v : Vote) (later : List Vote) → counted_votes as' l ≡ earlier ++ v ∷ later
      → NoneLeft c l earlier → LeftQuorum c l earlier v
      → pending c g.store g.table l ≡ refused 42 → announcements as' l ≡ v.place ∷ [] → ShareStands c g as' l

-- "that got a vote, and none in a block stored before its own": its own block, with what was accepted after it and before it
pub record VotedOnlySince (as' : List Accepted) (l : TransactionLocator) : Type 0 where
  pub own : Accepted
  pub since : List Accepted
  pub earlier : List Accepted
  pub splits : as' ≡ since ++ own ∷ earlier
  pub its_own : own.block.reference ≡ l.block
  pub voted : (b : Block) × (b ∈ stored_blocks as') × VoteIn b l
  pub none_before : (b : Block) → b ∈ stored_blocks earlier → VoteIn b l → ⊥

-- "was announced so"
abbrev pub Announced : List Accepted → TransactionLocator → Type 0
Announced as' l = (p : Place) × (p ∈ announcements as' l)

-- what holds of the engine g that accepted as', the last first, sentence by sentence
pub record Holds (c : Committee) (g : Engine) (as' : List Accepted) : Type 0 where
  -- "A locator is answered final exactly when the authors of stored unmarked blocks, each having voters for it with quorum stake in its
  -- inclusive ancestry, hold quorum stake"
  pub final : (l : TransactionLocator) (ps : List ℕ) → length as' ≤ length ps → AnsweredFinal c g (stored_blocks as') l ps
  -- 01: "Only 40 can then refuse the finality question": a position slice shorter than the block count
  pub only40 : (l : TransactionLocator) (ps : List ℕ) → length ps < length as' → (finality c g.store ps l).answer ≡ refused 40
  -- "the final list gives exactly these, ascending": 02's wide list
  pub finals : GivesFinal c g (stored_blocks as')
  -- 02: "the ordinary list adds being a stored share": exactly the final stored shares, ascending
  pub ordinary : GivesFinalShares c g (stored_blocks as')
  -- "A stored share is pending, with the stake and number of its counted voters, exactly when no counted vote left these with quorum stake;
  -- else the first that did, and no other, announced it as processed, once."
  pub shares : (l : TransactionLocator) → is_stored_share (stored_blocks as') l ≡ true → ShareStands c g as' l
  -- "No other locator was announced so."
  pub others : (l : TransactionLocator) → is_stored_share (stored_blocks as') l ≡ false → announcements as' l ≡ []
  -- "A final stored share that got a vote, and none in a block stored before its own, was announced so."
  pub announced : (l : TransactionLocator) → is_stored_share (stored_blocks as') l ≡ true → Final c (stored_blocks as') l → VotedOnlySince as' l
      → Announced as' l

-- 01: "a fresh store and a table of zeros", and the feeds from there: the bytes past the header, the words of the table, the feeds, the last first
pub record Start : Type 0 where
  pub past : Bytes
  pub allowed : 16 + length past ≤ 4294967295
  pub words : ℕ
  pub feeds : List Feed

-- the engine afterwards
unfoldable pub engine_of : Committee → Start → Engine
engine_of c t = run c (fresh t.past t.words) t.feeds

-- what it accepted on the way
unfoldable pub accepted_of : Committee → Start → List Accepted
accepted_of c t = accepted c (fresh t.past t.words) t.feeds

-- "leaves the same records stored, in whatever order"
abbrev pub SameRecords : Committee → Start → Start → Type 0
SameRecords c t u = (r : Bytes) → (r ∈ stored_records (accepted_of c t)) ↔ (r ∈ stored_records (accepted_of c u))

pub record ThirdStatement : Type 0 where
  -- "Take a fresh engine under one committee. After every list of feeds from there, records good and bad, refused ones included, this holds."
  pub every : (c : Committee) → broken c ≡ false → (t : Start) → Holds c (engine_of c t) (accepted_of c t)
  -- "Every other list from a fresh engine under that committee that leaves the same records stored, in whatever order, gives the same final list.":
  -- the same wide list
  pub same_list : (c : Committee) → broken c ≡ false → (t u : Start) → SameRecords c t u → (ls ms : List TransactionLocator)
      → FinalList c (engine_of c t).store ls → FinalList c (engine_of c u).store ms → ls ≡ ms
  -- and the same ordinary one
  pub same_shares : (c : Committee) → broken c ≡ false → (t u : Start) → SameRecords c t u → (ls ms : List TransactionLocator)
      → FinalShareList c (engine_of c t).store ls → FinalShareList c (engine_of c u).store ms → ls ≡ ms
