-- What the computed answers mean, as claims: each is owed with the questions. Assumes nothing: these are definitions.
use Rattle.std.specs.Prelude.{◌≡◌, ◌↔◌, true, false, List, map, length}
use Rattle.std.proofs.Math.Option.{Option}
use Rattle.base.specs.Lists.{pairwise, ◌∈◌}
use Rattle.base.specs.Le.{Bytes}
use Rattle.committee.specs.Committee.{AuthorityIndex, Committee, broken}
use Rattle.committee.specs.Quorum.{HoldQuorum}
use Rattle.committee_set.specs.AuthoritySet.{member}
use Rattle.record_spec.specs.Reference.{TransactionLocator, reference_before}
use Rattle.record_spec.specs.Block.{Block}
use Rattle.store_spec.specs.Layout.{Record, Entry, reference_of, entries}
use Rattle.store_spec.specs.Accept.{all_accepted}
use Rattle.store_spec.specs.Store.{records_of, store_in_order}
use Rattle.final_spec.specs.Ancestry.{Ancestor, Voter, Final}
use Rattle.final_spec.specs.Voters.{voters, certifiers, is_final}
use Rattle.final_spec.specs.Finality.{blocks_of, certifying_positions}
use Rattle.final_spec.specs.NextFinal.{LeastFinal, least_final, FinalList, final_list}

-- blocks that were accepted one after the other under a committee, the newest first
pub record Stored (c : Committee) (bs : List Block) : Type 0 where
  pub sound : broken c ≡ false
  pub records : List Record
  pub accepted : all_accepted c records ≡ true
  pub blocks : bs ≡ map (λ r. r.block) records

-- the vote set holds the authors in the inclusive ancestry that vote
unfoldable pub VotersMeant : Type 0
VotersMeant = (c : Committee) (bs : List Block) → Stored c bs → (l : TransactionLocator) (b : Block) → b ∈ bs → (a : AuthorityIndex)
    → (member (voters bs l b.reference) a ≡ true) ↔ Voter bs b l a

-- 01: "they depend on that ancestry alone, so two stores agreeing on it agree on them"
unfoldable pub VotersOfAncestry : Type 0
VotersOfAncestry = (c d : Committee) (bs cs : List Block) → Stored c bs → Stored d cs → (b : Block) → b ∈ bs → b ∈ cs
    → ((a : Block) → Ancestor bs a b ↔ Ancestor cs a b)
    → (l : TransactionLocator) → voters bs l b.reference ≡ voters cs l b.reference

unfoldable pub FinalMeant : Type 0
FinalMeant = (c : Committee) (bs : List Block) → Stored c bs → (l : TransactionLocator) → (is_final c bs l ≡ true) ↔ Final c bs l

unfoldable pub LeastFinalMeant : Type 0
LeastFinalMeant = (c : Committee) (bs : List Block) (after : Option TransactionLocator) → LeastFinal c bs after (least_final c bs after)

-- the computed list is the one that the question gives when it is asked on
unfoldable pub FinalListMeant : Type 0
FinalListMeant = (c : Committee) (s : Bytes) → broken c ≡ false → store_in_order c s ≡ true → FinalList c s (final_list c (blocks_of s))

-- 01: "An unmarked block with quorum voters certifies": so does that of a stored entry
pub record CertifyingEntry (c : Committee) (s : Bytes) (l : TransactionLocator) (e : Entry) : Type 0 where
  pub stored : e ∈ entries (records_of s)
  pub unmarked : e.block.marked ≡ false
  pub quorum : HoldQuorum c (Voter (blocks_of s) e.block l)

-- 01: "the number of certifying blocks and their positions, one word each, in ascending reference order": they are the positions of exactly the
-- entries that certify, as many as blocks certify, each of a higher reference than the one before
pub record CertifyingMeant (c : Committee) (s : Bytes) (l : TransactionLocator) : Type 0 where
  pub found : List Entry
  pub positions : certifying_positions c s l ≡ map (λ e. e.position) found
  pub exactly : (e : Entry) → (e ∈ found) ↔ CertifyingEntry c s l e
  pub ascending : pairwise (λ e d. reference_before (reference_of e) (reference_of d)) found ≡ true
  pub many : length found ≡ length (certifiers c (blocks_of s) l)

pub record Claims : Type 0 where
  pub voters : VotersMeant
  pub ancestry : VotersOfAncestry
  pub final : FinalMeant
  pub certifying : (c : Committee) (s : Bytes) (l : TransactionLocator) → store_in_order c s ≡ true → CertifyingMeant c s l
  pub least_final : LeastFinalMeant
  pub final_list : FinalListMeant
