-- The mission's third statement of the calls that a host makes, over the bytes that it lends. Assumes nothing: these are definitions.
use Rattle.std.specs.Prelude.{ℕ, ◌+◌, ◌*◌, ◌≤◌, ◌≡◌, ◌↔◌, Bool, true, false, List, [], ◌∷◌, ◌++◌, map, length}
use Rattle.std.proofs.Math.Option.{some}
use Rattle.base.specs.Lists.{pairwise, ◌∈◌}
use Rattle.base.specs.Le.{Bytes}
use Rattle.base.specs.Checks.{refused, answered}
use Rattle.committee.specs.Committee.{broken}
use Rattle.record_spec.specs.Reference.{TransactionLocator, locator_before}
use Rattle.record_spec.specs.Block.{Block}
use Rattle.store_spec.specs.Shares.{is_stored_share, StoredShare}
use Rattle.feed_spec.specs.Pending.{Standing}
use Rattle.final_spec.specs.Ancestry.{Final}
use Rattle.final_spec.specs.Finality.{blocks_of}
use Rattle.list_stretches_spec.specs.Stretches.{FinalStretch}
use Rattle.final_readings_spec.specs.Readings.{old}
use Rattle.record_reference_bytes.specs.Step.{locator_at}
use Rattle.mission_theorems.specs.Feeds.{Accepted, stored_blocks, stored_records}
use Rattle.mission_theorems.specs.Shares.{Vote, counted_votes, counted_voters, LeftQuorum, NoneLeft, Tally, announcements}
use Rattle.mission_theorems.specs.ThirdStatement.{VotedOnlySince, Announced}
use Rattle.list_theorems.specs.Bulk.{spread_out}
use Rattle.host_calls.specs.Calls.{flag, committee_of}
use Rattle.host_locators.specs.Locators.{locator_of}
use Rattle.host_finality.specs.Finality.{finality_call}
use Rattle.host_pending_bytes.specs.Pending.{pending_stake_call, pending_voters_call}
use Rattle.host_final_answers.specs.Answers.{whole_stretches}
use Rattle.host_finals.specs.NextFinal.{next_final_call, next_wide_call}
use Rattle.host_finals.specs.Stretches.{stretches_call, wide_stretches_call}
use Rattle.host_theorems.specs.Feeds.{ByteEngine, ByteStart, host_of, accepted_by}
use Rattle.host_theorems.specs.Lists.{NextCall, FoundOn, BulkCall, StretchesOn}

-- the finality question about the locator in the bytes b, with 1,024 words for positions, is answered, and final exactly where the relation says so
pub record AnsweredFinal (stakes : Bytes) (g : ByteEngine) (bs : List Block) (b : Bytes) (l : TransactionLocator) (ps : Bytes) : Type 0 where
  pub final : Bool
  pub certifying : ℕ
  pub answer : (finality_call old stakes g.store ps b).answer ≡ answered (2 * certifying + flag final)
  pub exactly : (final ≡ true) ↔ Final (committee_of stakes) bs l

-- a list, asked on from the start until none, one by one and in bulk, gives exactly the locators of which it is asked whether Is, ascending
pub record Gives (next : NextCall) (bulk : BulkCall) (stakes : Bytes) (g : ByteEngine) (Is : TransactionLocator → Type 0) : Type 0 where
  -- what is found, 56 bytes each, and the locators in them
  pub found : List Bytes
  pub given : FoundOn next stakes g.store [] found
  pub exactly : (l : TransactionLocator) → (l ∈ map (λ b. locator_at b 0) found) ↔ Is l
  pub ascending : pairwise locator_before (map (λ b. locator_at b 0) found) ≡ true
  -- in bulk, with whatever slices, it is the same list
  pub spread : (outs : List Bytes) (ts : List FinalStretch) → StretchesOn bulk stakes g.store [] outs ts → spread_out ts ≡ map (λ b. locator_at b 0) found
  -- and it comes to its end with any slices of whole stretches, of which as many as there are locators are enough, and one where there are none
  pub reaches : (outs : List Bytes) → ((out : Bytes) → out ∈ outs → whole_stretches out ≡ true) → 1 ≤ length outs → length found ≤ length outs
      → (ts : List FinalStretch) × StretchesOn bulk stakes g.store [] outs ts

-- a stored share stands in one of two ways, and not in both: the questions for its stake and its voters are answered in one and refused in the other
pub data ShareStands (stakes : Bytes) (g : ByteEngine) (as' : List Accepted) (b : Bytes) (l : TransactionLocator) : Type 0 where
  -- "is pending, with the stake and number of its counted voters, exactly when no counted vote left these with quorum stake"
  stays : (st : Standing) → NoneLeft (committee_of stakes) l (counted_votes as' l) → Tally (committee_of stakes) (counted_voters l (counted_votes as' l)) st
      → pending_stake_call stakes g.store g.table b ≡ answered st.stake → pending_voters_call stakes g.store g.table b ≡ answered st.voters
      → announcements as' l ≡ [] → ShareStands stakes g as' b l
  -- "else the first that did, and no other, announced it as processed, once"
  gone : (earlier : List Vote) (v : Vote) (later : List Vote) → counted_votes as' l ≡ earlier ++ v ∷ later
      → NoneLeft (committee_of stakes) l earlier → LeftQuorum (committee_of stakes) l earlier v
      → pending_stake_call stakes g.store g.table b ≡ refused 42 → pending_voters_call stakes g.store g.table b ≡ refused 42
      → announcements as' l ≡ v.place ∷ [] → ShareStands stakes g as' b l

-- what holds of the engine g that accepted as', the last first, sentence by sentence; bytes b that are the locator l stand for it
pub record Holds (stakes : Bytes) (g : ByteEngine) (as' : List Accepted) : Type 0 where
  -- 01: "Stored means accepted in that list": the store holds the blocks that were accepted
  pub stored : blocks_of g.store ≡ stored_blocks as'
  -- "A locator is answered final exactly when the authors of stored unmarked blocks, each having voters for it with quorum stake in its
  -- inclusive ancestry, hold quorum stake"
  pub final : (b : Bytes) (l : TransactionLocator) → locator_of b ≡ some l → (ps : Bytes) → length ps ≡ 8192 → AnsweredFinal stakes g (stored_blocks as') b l ps
  -- 01: "Only 40 can then refuse the finality question": positions that are not of `listing`'s size
  pub only40 : (b : Bytes) (l : TransactionLocator) → locator_of b ≡ some l → (ps : Bytes) → (length ps ≡ 8192 → ⊥)
      → (finality_call old stakes g.store ps b).answer ≡ refused 40
  -- "the final list gives exactly these, ascending": 02's wide list
  pub finals : Gives next_wide_call wide_stretches_call stakes g (Final (committee_of stakes) (stored_blocks as'))
  -- 02: "the ordinary list adds being a stored share"
  pub ordinary : Gives next_final_call stretches_call stakes g (λ l. StoredShare (stored_blocks as') l × Final (committee_of stakes) (stored_blocks as') l)
  -- "A stored share is pending, with the stake and number of its counted voters, exactly when no counted vote left these with quorum stake;
  -- else the first that did, and no other, announced it as processed, once."
  pub shares : (b : Bytes) (l : TransactionLocator) → locator_of b ≡ some l → is_stored_share (stored_blocks as') l ≡ true → ShareStands stakes g as' b l
  -- 01: "42 not pending": so is a locator that is no stored share
  pub not_shares : (b : Bytes) (l : TransactionLocator) → locator_of b ≡ some l → is_stored_share (stored_blocks as') l ≡ false
      → (pending_stake_call stakes g.store g.table b ≡ refused 42) × (pending_voters_call stakes g.store g.table b ≡ refused 42)
  -- "No other locator was announced so."
  pub others : (l : TransactionLocator) → is_stored_share (stored_blocks as') l ≡ false → announcements as' l ≡ []
  -- "A final stored share that got a vote, and none in a block stored before its own, was announced so."
  pub announced : (l : TransactionLocator) → is_stored_share (stored_blocks as') l ≡ true → Final (committee_of stakes) (stored_blocks as') l
      → VotedOnlySince as' l → Announced as' l

-- "leaves the same records stored, in whatever order"
abbrev pub SameRecords : Bytes → ByteStart → ByteStart → Type 0
SameRecords stakes t u = (r : Bytes) → (r ∈ stored_records (accepted_by stakes t)) ↔ (r ∈ stored_records (accepted_by stakes u))

pub record HostStatement : Type 0 where
  -- "Take a fresh engine under one committee. After every list of feeds from there, records good and bad, refused ones included, this holds."
  pub every : (stakes : Bytes) → broken (committee_of stakes) ≡ false → (t : ByteStart) → Holds stakes (host_of stakes t) (accepted_by stakes t)
  -- "Every other list from a fresh engine under that committee that leaves the same records stored, in whatever order, gives the same final list.":
  -- the wide one and the ordinary one, byte for byte
  pub same_list : (stakes : Bytes) → broken (committee_of stakes) ≡ false → (t u : ByteStart) → SameRecords stakes t u → (bs ds : List Bytes)
      → FoundOn next_wide_call stakes (host_of stakes t).store [] bs → FoundOn next_wide_call stakes (host_of stakes u).store [] ds → bs ≡ ds
  pub same_shares : (stakes : Bytes) → broken (committee_of stakes) ≡ false → (t u : ByteStart) → SameRecords stakes t u → (bs ds : List Bytes)
      → FoundOn next_final_call stakes (host_of stakes t).store [] bs → FoundOn next_final_call stakes (host_of stakes u).store [] ds → bs ≡ ds
