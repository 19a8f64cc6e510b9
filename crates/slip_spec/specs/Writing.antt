-- Writing the slip of a locator that is final in either reading. Assumes nothing: these are definitions.
use Rattle.std.specs.Prelude.{ℕ, not, List, [], ◌∷◌, ◌++◌, map, ltb, length, drop}
use Rattle.base.specs.Lists.{pick, keep}
use Rattle.base.specs.Le.{Bytes}
use Rattle.base.specs.Checks.{Check, ◌⇒◌, passes, Answer, checked}
use Rattle.committee.specs.Committee.{AuthorityIndex, Committee, broken}
use Rattle.committee_set.specs.AuthoritySet.{members}
use Rattle.record_spec.specs.Reference.{TransactionLocator, reference_before}
use Rattle.record_spec.specs.Block.{Block}
use Rattle.store_spec.specs.Store.{store_in_order}
use Rattle.final_spec.specs.Finality.{blocks_of}
use Rattle.final_readings_spec.specs.Readings.{Reading, voters_in, certifies_in, is_final_in}
use Rattle.slip_spec.specs.Slip.{SlipVoter, SlipCertifier, Slip, slip_bytes}
use Rattle.slip_spec.specs.Paths.{path_to}
use Rattle.slip_spec.specs.Reading.{votes_as}

-- a block put among blocks in ascending reference order
unfoldable pub placed_block : Block → List Block → List Block
placed_block b [] = b ∷ []
placed_block b (d ∷ ds) = pick (reference_before b.reference d.reference) (b ∷ d ∷ ds) (d ∷ placed_block b ds)

unfoldable pub ascending_blocks : List Block → List Block
ascending_blocks [] = []
ascending_blocks (b ∷ bs) = placed_block b (ascending_blocks bs)

-- 02: "voters by the shortest, then first, path"
unfoldable pub voter_of : List Block → TransactionLocator → Block → AuthorityIndex → SlipVoter
voter_of bs l b a = record { author = a; path = path_to (votes_as l a) bs b }

unfoldable pub certifier_of : Reading → List Block → TransactionLocator → Block → SlipCertifier
certifier_of reading bs l b = record { reference = b.reference; voters = map (voter_of bs l b) (members (voters_in reading bs l b.reference)) }

-- the certifiers in ascending reference order
unfoldable pub ordered_certifiers : Reading → Committee → List Block → TransactionLocator → List Block
ordered_certifiers reading c bs l = keep (certifies_in reading c bs l) (ascending_blocks bs)

-- 02: "naming all certifiers and voters", of the reading that is chosen
unfoldable pub slip_for : Reading → Committee → List Block → TransactionLocator → Slip
slip_for reading c bs l = record { reading = reading; locator = l; certifiers = map (certifier_of reading bs l) (ordered_certifiers reading c bs l) }

-- 02: "Writing answers 5; 10; 52 for a locator not final; 50 for a short slice"
unfoldable pub write_checks : Reading → Committee → Bytes → Bytes → TransactionLocator → List Check
write_checks reading c s out l =
    (broken c ⇒ 5)
    ∷ (not (store_in_order c s) ⇒ 10)
    ∷ (not (is_final_in reading c (blocks_of s) l) ⇒ 52)
    ∷ (ltb (length out) (length (slip_bytes (slip_for reading c (blocks_of s) l))) ⇒ 50)
    ∷ []

-- what writing answers, and the slice that it was lent afterwards
pub record Written : Type 0 where
  pub answer : Answer ℕ
  pub out : Bytes

-- 02: "as with every writer below, bytes past it stay"
unfoldable pub write_slip : Reading → Committee → Bytes → Bytes → TransactionLocator → Written
write_slip reading c s out l =
    let bytes : Bytes = slip_bytes (slip_for reading c (blocks_of s) l) in
    record {
      answer = checked (write_checks reading c s out l) (length bytes);
      out = pick (passes (write_checks reading c s out l)) (bytes ++ drop (length bytes) out) out;
    }
