-- What is claimed of the two readings: each claim is owed with the questions of the new one. Assumes nothing: these are definitions.
use Rattle.std.specs.Prelude.{ℕ, ◌≤◌, ◌<◌, ◌≡◌, ◌↔◌, true, false, not, ◌&&◌, List}
use Rattle.std.proofs.Math.Option.{Option, some}
use Rattle.base.specs.Lists.{◌∈◌}
use Rattle.base.specs.Le.{Bytes}
use Rattle.committee.specs.Committee.{AuthorityIndex, Committee, broken}
use Rattle.committee_set.specs.AuthoritySet.{member}
use Rattle.record_spec.specs.Reference.{BlockReference, TransactionLocator, locator}
use Rattle.record_spec.specs.Block.{Block}
use Rattle.store_spec.specs.Store.{store_in_order}
use Rattle.final_spec.specs.Voters.{votes_for, voters, certifies, certifiers, is_final}
use Rattle.final_spec.specs.Ancestry.{Ancestor}
use Rattle.final_spec.specs.Finality.{blocks_of, certifying_positions, finality}
use Rattle.final_spec.specs.NextFinal.{least_final, next_final, final_list}
use Rattle.final_spec.specs.Claims.{Stored}
use Rattle.final_readings_spec.specs.Rejecting.{rejecters}
use Rattle.final_readings_spec.specs.Readings.{Reading, old, withdrawing, voters_in, certifies_in, certifiers_in, is_final_in}
use Rattle.final_readings_spec.specs.Withdrawing.{Rejecter, VoterIn, FinalIn, NoRejects, WholeAncestry}
use Rattle.final_readings_spec.specs.Finality.{certifying_positions_in, finality_in}
use Rattle.final_readings_spec.specs.NextFinal.{LeastFinalIn, candidates_in, least_final_in, next_final_in, FinalListIn, final_list_in, reject_edges}

-- ---- the old reading is the engine's as it was

-- 02: "the Rust's stays"
pub record OldReading : Type 0 where
  pub voters : (bs : List Block) (l : TransactionLocator) (r : BlockReference) → voters_in old bs l r ≡ voters bs l r
  pub certifies : (c : Committee) (bs : List Block) (l : TransactionLocator) (b : Block) → certifies_in old c bs l b ≡ certifies c bs l b
  pub certifiers : (c : Committee) (bs : List Block) (l : TransactionLocator) → certifiers_in old c bs l ≡ certifiers c bs l
  pub final : (c : Committee) (bs : List Block) (l : TransactionLocator) → is_final_in old c bs l ≡ is_final c bs l
  pub positions : (c : Committee) (s : Bytes) (l : TransactionLocator) → certifying_positions_in old c s l ≡ certifying_positions c s l
  pub finality : (c : Committee) (s : Bytes) (ps : List ℕ) (l : TransactionLocator) → finality_in old c s ps l ≡ finality c s ps l
  pub least_final : (c : Committee) (bs : List Block) (after : Option TransactionLocator) → least_final_in old c bs after ≡ least_final c bs after
  pub next_final : (c : Committee) (s : Bytes) (after : Option TransactionLocator) → next_final_in old c s after ≡ next_final c s after
  pub final_list : (c : Committee) (bs : List Block) → final_list_in old c bs ≡ final_list c bs

-- ---- the computed answers are what the relations say

-- 02: "in a block's inclusive ancestry, a reject by an owner for a locator (its first)"
unfoldable pub RejectersMeant : Type 0
RejectersMeant = (c : Committee) (bs : List Block) → Stored c bs → (l : TransactionLocator) (b : Block) → b ∈ bs → (a : AuthorityIndex)
    → (member (rejecters bs l b.reference) a ≡ true) ↔ Rejecter bs b l a

-- 02: "cancels that owner's accepts, ranges and share for it, for that block only"
unfoldable pub VotersInMeant : Type 0
VotersInMeant = (reading : Reading) (c : Committee) (bs : List Block) → Stored c bs → (l : TransactionLocator) (b : Block) → b ∈ bs → (a : AuthorityIndex)
    → (member (voters_in reading bs l b.reference) a ≡ true) ↔ VoterIn reading bs b l a

unfoldable pub FinalInMeant : Type 0
FinalInMeant = (reading : Reading) (c : Committee) (bs : List Block) → Stored c bs → (l : TransactionLocator) → (is_final_in reading c bs l ≡ true) ↔ FinalIn
    reading c bs l

unfoldable pub LeastFinalInMeant : Type 0
LeastFinalInMeant = (reading : Reading) (c : Committee) (bs : List Block) (after : Option TransactionLocator) → LeastFinalIn reading c bs after
    (least_final_in reading c bs after)

-- the least one stands just after the given locator, where a vote begins, or, in the new reading, just after a rejected locator
unfoldable pub LeastStands : Type 0
LeastStands = (reading : Reading) (c : Committee) (bs : List Block) (after : Option TransactionLocator) (l : TransactionLocator)
    → LeastFinalIn reading c bs after (some l) → l ∈ candidates_in reading bs after

-- the computed list is the one that the question gives when it is asked on
unfoldable pub FinalListInMeant : Type 0
FinalListInMeant = (reading : Reading) (c : Committee) (s : Bytes) → broken c ≡ false → store_in_order c s ≡ true → FinalListIn reading c s
    (final_list_in reading c (blocks_of s))

-- ---- Twelve

-- 02: "Its voters are those of the old reading less the rejecting owners", of any blocks
unfoldable pub VotersLess : Type 0
VotersLess = (bs : List Block) (l : TransactionLocator) (r : BlockReference) (a : AuthorityIndex)
    → member (voters_in withdrawing bs l r) a ≡ member (voters_in old bs l r) a && not (member (rejecters bs l r) a)

-- so what is final in the new reading is final in the old one
unfoldable pub FinalInBoth : Type 0
FinalInBoth = (c : Committee) (bs : List Block) (l : TransactionLocator) → is_final_in withdrawing c bs l ≡ true → is_final_in old c bs l ≡ true

-- 02: "With no rejects in the store both readings list the same"
pub record SameLists (c : Committee) (bs : List Block) : Type 0 where
  pub voters : (l : TransactionLocator) (r : BlockReference) → voters_in withdrawing bs l r ≡ voters_in old bs l r
  pub certifiers : (l : TransactionLocator) → certifiers_in withdrawing c bs l ≡ certifiers_in old c bs l
  pub final : (l : TransactionLocator) → is_final_in withdrawing c bs l ≡ is_final_in old c bs l
  pub least_final : (after : Option TransactionLocator) → least_final_in withdrawing c bs after ≡ least_final_in old c bs after
  pub final_list : final_list_in withdrawing c bs ≡ final_list_in old c bs

-- and answer the same
pub record SameAnswers (c : Committee) (s : Bytes) : Type 0 where
  pub positions : (l : TransactionLocator) → certifying_positions_in withdrawing c s l ≡ certifying_positions_in old c s l
  pub finality : (ps : List ℕ) (l : TransactionLocator) → finality_in withdrawing c s ps l ≡ finality_in old c s ps l
  pub next_final : (after : Option TransactionLocator) → next_final_in withdrawing c s after ≡ next_final_in old c s after

unfoldable pub SameWithoutRejects : Type 0
SameWithoutRejects = (c : Committee) (bs : List Block) → NoRejects bs → SameLists c bs

unfoldable pub SameAnswered : Type 0
SameAnswered = (c : Committee) (s : Bytes) → NoRejects (blocks_of s) → SameAnswers c s

-- 01: "they depend on that ancestry alone, so two stores agreeing on it agree on them", voters and rejecting owners, in both readings
unfoldable pub VotersInOfAncestry : Type 0
VotersInOfAncestry = (c d : Committee) (bs cs : List Block) → Stored c bs → Stored d cs → (b : Block) → b ∈ bs → b ∈ cs
    → ((a : Block) → Ancestor bs a b ↔ Ancestor cs a b)
    → (l : TransactionLocator)
    → (rejecters bs l b.reference ≡ rejecters cs l b.reference)
    × ((reading : Reading) → voters_in reading bs l b.reference ≡ voters_in reading cs l b.reference)

-- 02: "order of arrival changes neither's lists": the same blocks, accepted in two orders
pub record SameInAnyOrder (reading : Reading) (c : Committee) (bs cs : List Block) : Type 0 where
  pub certifies : (l : TransactionLocator) (b : Block) → b ∈ bs → certifies_in reading c bs l b ≡ certifies_in reading c cs l b
  pub final : (l : TransactionLocator) → is_final_in reading c bs l ≡ is_final_in reading c cs l
  pub least_final : (after : Option TransactionLocator) → least_final_in reading c bs after ≡ least_final_in reading c cs after
  pub final_list : final_list_in reading c bs ≡ final_list_in reading c cs

unfoldable pub InAnyOrder : Type 0
InAnyOrder = (reading : Reading) (c : Committee) (bs cs : List Block) → Stored c bs → Stored c cs → ((x : Block) → x ∈ bs ↔ x ∈ cs) → SameInAnyOrder reading c
    bs cs

-- 02, Two: "in every store under that committee with those records they then really certify": what blocks alone say of the voters of one of them is so
-- in every store with them, in the old reading whichever blocks they are, in the new one where they hold its whole ancestry
pub record ReallyVote (cs bs : List Block) (b : Block) (l : TransactionLocator) (a : AuthorityIndex) : Type 0 where
  pub old : VoterIn old bs b l a → VoterIn old cs b l a
  pub whole : WholeAncestry bs b → (reading : Reading) → VoterIn reading bs b l a ↔ VoterIn reading cs b l a

unfoldable pub VotersOfRecords : Type 0
VotersOfRecords = (c : Committee) (cs bs : List Block) → Stored c cs → ((x : Block) → x ∈ bs → x ∈ cs) → (b : Block) → b ∈ bs → (l : TransactionLocator)
    (a : AuthorityIndex)
    → ReallyVote cs bs b l a

-- a stretch of the list in bulk is cut at a rejected offset and at the one after it too: where no such edge lies above an offset up to another, and
-- the same blocks vote at both, the same blocks certify
unfoldable pub CutAtRejects : Type 0
CutAtRejects = (reading : Reading) (c : Committee) (bs : List Block) (l : TransactionLocator) (o : ℕ) → l.offset ≤ o
    → ((d : Block) → d ∈ bs → votes_for d l ≡ votes_for d (locator l.block o))
    → ((e : ℕ) → e ∈ reject_edges bs l.block → l.offset < e → e ≤ o → ⊥)
    → certifiers_in reading c bs l ≡ certifiers_in reading c bs (locator l.block o)

pub record Claims : Type 0 where
  pub old : OldReading
  pub rejecters : RejectersMeant
  pub voters : VotersInMeant
  pub final : FinalInMeant
  pub least_final : LeastFinalInMeant
  pub least_stands : LeastStands
  pub final_list : FinalListInMeant
  pub less : VotersLess
  pub both : FinalInBoth
  pub no_rejects : SameWithoutRejects
  pub same_answered : SameAnswered
  pub ancestry : VotersInOfAncestry
  pub order : InAnyOrder
  pub records : VotersOfRecords
  pub cuts : CutAtRejects
