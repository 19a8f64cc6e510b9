-- Finality slips of both readings: their values and their bytes, read and written. Assumes nothing: these are definitions.
use Rattle.std.specs.Prelude.{ℕ, Bool, false, ◌&&◌, ltb, eqb, length}
use mathlib.Core.List.{List, [], ◌∷◌, ◌++◌, map, flatten}
use Rattle.std.proofs.Math.Option.{Option, get_or}
use Rattle.base.specs.Lists.{all_of, pairwise}
use Rattle.base.specs.Le.{Bytes, le_bytes}
use Rattle.base.specs.Read.{Read, give, ◌>>=◌, items, number, given, repeated, complete}
use Rattle.committee.specs.Committee.{AuthorityIndex}
use Rattle.record_spec.specs.Reference.{BlockReference, TransactionLocator, reference_before}
use Rattle.record_spec.specs.Record.{read_reference, read_locator, reference_bytes, locator_bytes, no_reference}
use Rattle.record_spec.specs.Claims.{are_bytes, fits_reference, fits_locator}
use Rattle.final_readings_spec.specs.Readings.{Reading, old, withdrawing, reading_of}

-- 02: "voters, each its author, path length (2) and path of include places (1 each) from certifier to vote"
pub record SlipVoter : Type 0 where
  pub author : AuthorityIndex
  pub path : List ℕ

-- 02: "certifying blocks, each its reference and a count (1) of voters"
pub record SlipCertifier : Type 0 where
  pub reference : BlockReference
  pub voters : List SlipVoter

-- 02: "a finality slip for one locator", and "Slips name their reading in their first byte"
pub record Slip : Type 0 where
  pub reading : Reading
  pub locator : TransactionLocator
  pub certifiers : List SlipCertifier

-- 02: "both lists strictly ascending"
unfoldable pub voters_ascend : List SlipVoter → Bool
voters_ascend vs = pairwise (λ v w. ltb v.author w.author) vs

unfoldable pub certifiers_ascend : List SlipCertifier → Bool
certifiers_ascend ks = pairwise (λ k m. reference_before k.reference m.reference) ks

-- 02: "its author, path length (2) and path of include places (1 each)"
unfoldable pub read_voter : Read SlipVoter
read_voter = do
  author ← number 8
  n ← number 2
  path ← items n
  give (record { author = author; path = path })

-- 02: "each its reference and a count (1) of voters, .. both lists strictly ascending"
unfoldable pub read_certifier : Read SlipCertifier
read_certifier = do
  reference ← read_reference
  n ← number 1
  voters ← repeated n read_voter
  given (voters_ascend voters) (give (record { reference = reference; voters = voters }))

-- 02: "the locator, a count (2 bytes) of certifying blocks, .. both lists strictly ascending": what follows the first byte
unfoldable pub read_body : Reading → Read Slip
read_body reading = do
  locator ← read_locator
  n ← number 2
  certifiers ← repeated n read_certifier
  given (certifiers_ascend certifiers) (give (record { reading = reading; locator = locator; certifiers = certifiers }))

-- 02: "Slips name their reading in their first byte, 0 the old and 1 the new", then the rest
unfoldable pub read_first : Read Slip
read_first = do
  first ← number 1
  given (ltb first 2) (read_body (reading_of (eqb first 1)))

-- 02: "another first byte or none answers 61": here the first byte names a reading
unfoldable pub names_reading : Bytes → Bool
names_reading [] = false
names_reading (first ∷ rest) = ltb first 2

-- nothing after; none is "52 for a slip .. of another form"
unfoldable pub read_slip : Bytes → Option Slip
read_slip s = complete (read_first s)

-- a slip where there is none
unfoldable pub no_slip : Slip
no_slip = record { reading = old; locator = record { block = no_reference; offset = 0 }; certifiers = [] }

-- the slip of its bytes; an empty one where they are of another form
unfoldable pub slip_in : Bytes → Slip
slip_in s = get_or (read_slip s) no_slip

-- ---- the same, written

unfoldable pub voter_bytes : SlipVoter → Bytes
voter_bytes v = le_bytes 8 v.author ++ (le_bytes 2 (length v.path) ++ v.path)

unfoldable pub certifier_bytes : SlipCertifier → Bytes
certifier_bytes k = reference_bytes k.reference ++ (le_bytes 1 (length k.voters) ++ flatten (map voter_bytes k.voters))

-- 02: "0 the old and 1 the new"
unfoldable pub reading_byte : Reading → ℕ
reading_byte old = 0
reading_byte withdrawing = 1

unfoldable pub slip_bytes : Slip → Bytes
slip_bytes s = reading_byte s.reading ∷ locator_bytes s.locator ++ (le_bytes 2 (length s.certifiers) ++ flatten (map certifier_bytes s.certifiers))

-- ---- what fits: every number its bytes, and both lists strictly ascending

unfoldable pub fits_voter : SlipVoter → Bool
fits_voter v = ltb v.author 18446744073709551616 && (ltb (length v.path) 65536 && are_bytes v.path)

unfoldable pub fits_certifier : SlipCertifier → Bool
fits_certifier k =
    fits_reference k.reference
    && (ltb (length k.voters) 256 && (all_of fits_voter k.voters && voters_ascend k.voters))

unfoldable pub fits_slip : Slip → Bool
fits_slip s =
    fits_locator s.locator
    && (ltb (length s.certifiers) 65536 && (all_of fits_certifier s.certifiers && certifiers_ascend s.certifiers))
