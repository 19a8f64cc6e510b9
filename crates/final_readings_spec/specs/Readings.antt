-- The two readings of a reject: voters, certificates and finality in each. Assumes nothing: these are definitions.
use Rattle.std.specs.Prelude.{Bool, true, false, not, ◌&&◌, List, map}
use Rattle.base.specs.Lists.{keep}
use Rattle.committee.specs.Committee.{Committee, is_quorum}
use Rattle.committee_set.specs.AuthoritySet.{AuthoritySet, set_of, stake_of, without}
use Rattle.record_spec.specs.Reference.{BlockReference, TransactionLocator}
use Rattle.record_spec.specs.Block.{Block, author}
use Rattle.final_spec.specs.Voters.{voters}
use Rattle.final_readings_spec.specs.Rejecting.{rejecters}

-- 02: "This second reading is chosen by calls of its own ..; the Rust's stays"
pub data Reading : Type 0 where
  old : Reading
  withdrawing : Reading

-- the one that a call asks for, by whether owners may withdraw
abbrev pub reading_of : Bool → Reading
reading_of true = withdrawing
reading_of false = old

-- 02: "Its voters are those of the old reading less the rejecting owners", of each block its own: "for that block only"
unfoldable pub voters_in : Reading → List Block → TransactionLocator → BlockReference → AuthoritySet
voters_in old bs l r = voters bs l r
voters_in withdrawing bs l r = without (voters bs l r) (rejecters bs l r)

-- 01: "An unmarked block with quorum voters certifies"
unfoldable pub certifies_in : Reading → Committee → List Block → TransactionLocator → Block → Bool
certifies_in reading c bs l b = not b.marked && is_quorum c (stake_of c (voters_in reading bs l b.reference))

unfoldable pub certifiers_in : Reading → Committee → List Block → TransactionLocator → List Block
certifiers_in reading c bs l = keep (certifies_in reading c bs l) bs

-- 01: "A locator is final when the certifiers' authors hold quorum, each author once, also where its block is not stored"
unfoldable pub is_final_in : Reading → Committee → List Block → TransactionLocator → Bool
is_final_in reading c bs l = is_quorum c (stake_of c (set_of (map author (certifiers_in reading c bs l))))
