-- Machinery for the contracts of inner functions: certifying blocks that were read from a position on. Assumes nothing: these are definitions.
use Rattle.std.specs.Prelude.{ℕ, ◌≤◌, ◌≡◌, Bool, true, false, ◌&&◌, List, map, leb, eqb, length, get_or, drop}
use Rattle.std.proofs.Math.Option.{none, some}
use Rattle.base.specs.Lists.{any_of, all_of, holds}
use Rattle.base.specs.Le.{Bytes, le_at}
use Rattle.base.specs.Read.{Part, repeated}
use Rattle.committee.specs.Committee.{Committee}
use Rattle.committee_set.specs.AuthoritySet.{AuthoritySet}
use Rattle.record_spec.specs.Reference.{TransactionLocator}
use Rattle.record_spec.specs.Block.{Block}
use Rattle.final_readings_spec.specs.Readings.{Reading, reading_of}
use Rattle.record_reference_bytes.specs.Step.{locator_at}
use Rattle.slip_spec.specs.Slip.{SlipCertifier, Slip, certifiers_ascend, read_certifier, names_reading, read_slip}
use Rattle.slip_spec.specs.Supplied.{supplied_blocks}
use Rattle.slip_spec.specs.Paths.{named}
use Rattle.slip_spec.specs.Reading.{missing_from, missing, certifier_holds, slip_holds}
use Rattle.slip_read_verdicts.specs.Verdict.{verdict}
use Rattle.slip_read_certifier.specs.Step.{Known}
use Rattle.slip_read_voters.specs.Step.{Speak}
use Rattle.std.specs.Prelude.{None, Some, Option}

-- a slip's first byte, which names its reading, locator and count stand there
unfoldable pub head_right : Bytes → Bool
head_right s = names_reading s && leb 59 (length s)

-- the reading that the first byte names
unfoldable pub reading_at : Bytes → Reading
reading_at s = reading_of (eqb (get_or s 0 0) 1)

-- what the certifiers of a slip show, but for their authors' quorum
unfoldable pub certifiers_verdict : Reading → Committee → List Block → TransactionLocator → List SlipCertifier → ℕ
certifiers_verdict reading c bs l ks =
    verdict (any_of (λ k. missing_from reading bs k.voters (named bs k.reference)) ks)
    (all_of (λ k. holds (certifier_holds reading c bs l k.voters) (named bs k.reference)) ks)

-- the certifiers that were read after the head, with their authors and what they show
pub record ReadAll (c : Committee) (s : Bytes) (q : Bytes) (order votes lacking rejecting : List ℕ) (end : ℕ) (authors : AuthoritySet) (shown : ℕ) : Type 0
  where
    pub certifiers : List SlipCertifier
    pub reads : repeated (le_at 2 s 57) read_certifier (drop 59 s) ≡ some (record { value = certifiers; rest = drop end s })
    pub inside : end ≤ length s
    pub ascend : certifiers_ascend certifiers ≡ true
    pub speak : Speak authors (map (λ k. k.reference.authority) certifiers)
    pub shows : (reading : Reading) (l : TransactionLocator) → Known reading q order l votes lacking rejecting → shown ≡ certifiers_verdict reading c
        (supplied_blocks q) l certifiers

unfoldable pub TookCertifiers : Committee → Bytes → Bytes → List ℕ → List ℕ → List ℕ → List ℕ → Option (ℕ × AuthoritySet × ℕ) → Type 0
TookCertifiers c s q order votes lacking rejecting (Some (end, authors, shown)) = ReadAll c s q order votes lacking rejecting end authors shown
TookCertifiers c s q order votes lacking rejecting None = (r : Part (List SlipCertifier)) → repeated (le_at 2 s 57) read_certifier (drop 59 s) ≡
    some r → certifiers_ascend r.value ≡ false

-- the slip that was read, and what it shows
pub record ReadSlip (c : Committee) (s : Bytes) (q : Bytes) (order votes lacking rejecting : List ℕ) (shown : ℕ) : Type 0 where
  pub slip : Slip
  pub reads : read_slip s ≡ some slip
  pub many : length (slip).certifiers ≡ le_at 2 s 57
  pub shows : Known (reading_at s) q order (locator_at s 1) votes lacking rejecting → shown ≡ verdict (missing (supplied_blocks q) slip)
      (slip_holds c (supplied_blocks q) slip)

unfoldable pub TookSlip : Committee → Bytes → Bytes → List ℕ → List ℕ → List ℕ → List ℕ → Option ℕ → Type 0
TookSlip c s q order votes lacking rejecting (Some shown) = ReadSlip c s q order votes lacking rejecting shown
TookSlip c s q order votes lacking rejecting None = read_slip s ≡ none
