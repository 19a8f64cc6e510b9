-- The slip of the course run, and slips that are refused, evaluated. Assumes nothing.
use Prim.Native.Nat.{ℕ, suc}
use mathlib.Core.Path.{◌≡◌, refl}
use mathlib.Core.Bool.{false}
use mathlib.Core.List.{List, [], ◌∷◌, ◌++◌, map}
use mathlib.Core.Option.{none, some}
use lib.ListN.{length, replicate, set, drop}
use Rattle.base.specs.Le.{Bytes}
use Rattle.base.specs.Checks.{refused, answered}
use Rattle.committee.specs.Committee.{Committee}
use Rattle.record_spec.specs.Reference.{BlockReference, TransactionLocator}
use Rattle.record_spec.specs.Block.{Statement, share, accept, reject, Block}
use Rattle.record_spec.specs.Record.{block_bytes}
use Rattle.final_readings_spec.specs.Readings.{old, withdrawing}
use Rattle.slip_spec.specs.Slip.{SlipVoter, SlipCertifier, Slip, slip_bytes}
use Rattle.slip_spec.specs.Supplied.{supplied_bytes}
use Rattle.slip_spec.specs.Reading.{read_answer}
use Rattle.slip_spec.specs.Writing.{slip_for}
use Rattle.slip_spec.proofs.Computing.{computing}

abbrev four : Committee
four = 1 ∷ 1 ∷ 1 ∷ 1 ∷ []

-- 01: "Record k's digest is the bytes 0, 0, 0, k, then 28 zeros"
abbrev ref : ℕ → ℕ → ℕ → BlockReference
ref a r k = record { authority = a; round = r; digest = 0 ∷ 0 ∷ 0 ∷ k ∷ replicate 28 0 }

abbrev round : ℕ → ℕ → List BlockReference
round r k = ref 0 r k ∷ ref 1 r (suc k) ∷ ref 2 r (suc (suc k)) ∷ []

abbrev block : BlockReference → List BlockReference → List Statement → Block
block r is ss = record { reference = r; marked = false; includes = is; statements = ss }

abbrev the : TransactionLocator
the = record { block = ref 0 1 5; offset = 0 }

-- 01's course run, the newest first: 5 shares, 9 and 10 accept
abbrev b5 : Block
b5 = block (ref 0 1 5) (round 0 1) (share [] ∷ [])

abbrev b8 : Block
b8 = block (ref 0 2 8) (round 1 5) []

abbrev b9 : Block
b9 = block (ref 1 2 9) (round 1 5) (accept the ∷ [])

abbrev b10 : Block
b10 = block (ref 2 2 10) (round 1 5) (accept the ∷ [])

abbrev top : ℕ → ℕ → Block
top a k = block (ref a 3 k) (round 2 8) []

abbrev course_with : List Statement → List Block
course_with ss =
    top 2 13 ∷ top 1 12 ∷ top 0 11 ∷ b10 ∷ b9 ∷ block (ref 0 2 8) (round 1 5) ss
    ∷ block (ref 2 1 7) (round 0 1) [] ∷ block (ref 1 1 6) (round 0 1) [] ∷ b5
    ∷ block (ref 3 0 4) [] [] ∷ block (ref 2 0 3) [] [] ∷ block (ref 1 0 2) [] [] ∷ block (ref 0 0 1) [] [] ∷ []

abbrev course : List Block
course = course_with []

abbrev voter : ℕ → List ℕ → SlipVoter
voter a ps = record { author = a; path = ps }

abbrev certifier : ℕ → ℕ → List SlipVoter → SlipCertifier
certifier a k vs = record { reference = ref a 3 k; voters = vs }

abbrev right_voters : List SlipVoter
right_voters = voter 0 (0 ∷ 0 ∷ []) ∷ voter 1 (1 ∷ []) ∷ voter 2 (2 ∷ []) ∷ []

abbrev slip : List SlipVoter → Slip
slip vs = record { reading = old; locator = the; certifiers = certifier 0 11 vs ∷ certifier 1 12 right_voters ∷ certifier 2 13 right_voters ∷ [] }

-- three certifiers; author 0 by its share over its own block, not over 9 or 10
written : slip_for old four course the ≡ slip right_voters
unfolding computing
written = refl

-- the records, in any order; those named are enough
abbrev records : List Block → Bytes
records bs = supplied_bytes (map (λ b. record { bytes = block_bytes b; block = b }) bs)

abbrev enough : List Block
enough = b5 ∷ b8 ∷ b9 ∷ b10 ∷ top 0 11 ∷ top 1 12 ∷ top 2 13 ∷ []

taken : read_answer four (slip_bytes (slip right_voters)) (records enough) ≡ answered 3
unfolding computing
taken = refl

-- more records than the slip names are welcome, and a path need not be the shortest or the first
more_taken : read_answer four (slip_bytes (slip right_voters)) (records course) ≡ answered 3
unfolding computing
more_taken = refl

other_path : read_answer four (slip_bytes (slip (voter 0 (2 ∷ 0 ∷ []) ∷ voter 1 (1 ∷ []) ∷ voter 2 (2 ∷ []) ∷ []))) (records enough) ≡ answered 3
unfolding computing
other_path = refl

-- 5
unsound : read_answer [] (slip_bytes (slip right_voters)) (records enough) ≡ refused 5
unfolding computing
unsound = refl

-- 61: another first byte; none
first_byte : read_answer four (set (slip_bytes (slip right_voters)) 0 2) (records enough) ≡ refused 61
unfolding computing
first_byte = refl

no_byte : read_answer four [] [] ≡ refused 61
unfolding computing
no_byte = refl

-- 52: nothing but a first byte; a byte after the slip; voters that do not ascend
byte_alone : read_answer four (1 ∷ []) (records enough) ≡ refused 52
unfolding computing
byte_alone = refl

byte_after : read_answer four (slip_bytes (slip right_voters) ++ (0 ∷ [])) (records enough) ≡ refused 52
unfolding computing
byte_after = refl

not_ascending : read_answer four (slip_bytes (slip (voter 1 (1 ∷ []) ∷ voter 0 (0 ∷ 0 ∷ []) ∷ voter 2 (2 ∷ []) ∷ []))) (records enough) ≡ refused 52
unfolding computing
not_ascending = refl

-- 52: a record twice; a record cut short; one that 21 refuses. All before 53
twice : read_answer four (slip_bytes (slip right_voters)) (records (b5 ∷ b5 ∷ [])) ≡ refused 52
unfolding computing
twice = refl

cut_short : read_answer four (slip_bytes (slip right_voters)) (drop 1 (records enough)) ≡ refused 52
unfolding computing
cut_short = refl

unknown_author : read_answer four (slip_bytes (slip right_voters)) (records (block (ref 4 0 1) [] [] ∷ [])) ≡ refused 52
unfolding computing
unknown_author = refl

-- 53: a certifier that is not supplied; a block on a path; the last block of a path
no_certifier : read_answer four (slip_bytes (slip right_voters)) (records (b5 ∷ b8 ∷ b9 ∷ b10 ∷ top 0 11 ∷ top 1 12 ∷ [])) ≡ refused 53
unfolding computing
no_certifier = refl

not_on_path : read_answer four (slip_bytes (slip right_voters)) (records (b5 ∷ b9 ∷ b10 ∷ top 0 11 ∷ top 1 12 ∷ top 2 13 ∷ [])) ≡ refused 53
unfolding computing
not_on_path = refl

no_vote : read_answer four (slip_bytes (slip right_voters)) (records (b8 ∷ b9 ∷ b10 ∷ top 0 11 ∷ top 1 12 ∷ top 2 13 ∷ [])) ≡ refused 53
unfolding computing
no_vote = refl

-- then 52: a place past the end; a path to another author's vote; to a block of the author that does not vote; voters, or certifiers, below quorum
past_the_end : read_answer four (slip_bytes (slip (voter 0 (0 ∷ 0 ∷ []) ∷ voter 1 (3 ∷ []) ∷ voter 2 (2 ∷ []) ∷ []))) (records enough) ≡ refused 52
unfolding computing
past_the_end = refl

another_author : read_answer four (slip_bytes (slip (voter 0 (0 ∷ 0 ∷ []) ∷ voter 1 (2 ∷ []) ∷ voter 2 (2 ∷ []) ∷ []))) (records enough) ≡ refused 52
unfolding computing
another_author = refl

no_vote_there : read_answer four (slip_bytes (slip (voter 0 (0 ∷ []) ∷ voter 1 (1 ∷ []) ∷ voter 2 (2 ∷ []) ∷ []))) (records enough) ≡ refused 52
unfolding computing
no_vote_there = refl

few_voters : read_answer four (slip_bytes (slip (voter 1 (1 ∷ []) ∷ voter 2 (2 ∷ []) ∷ []))) (records enough) ≡ refused 52
unfolding computing
few_voters = refl

few_certifiers : read_answer four (slip_bytes (record {
  reading = old;
  locator = the;
  certifiers = certifier 1 12 right_voters ∷ certifier 2 13 right_voters ∷
      [];
})) (records enough) ≡ refused 52
unfolding computing
few_certifiers = refl

-- 53 is asked of the whole slip before anything is said to not hold
missing_first : read_answer four (slip_bytes (slip (voter 1 (3 ∷ []) ∷ []))) (records (b5 ∷ b8 ∷ b9 ∷ b10 ∷ top 0 11 ∷ top 1 12 ∷ [])) ≡ refused 53
unfolding computing
missing_first = refl

-- ---- the new reading

-- the course run's slip names its reading, and comes with every block below its certifiers
abbrev new_slip : List SlipVoter → Slip
new_slip vs = record { reading = withdrawing; locator = the; certifiers = certifier 0 11 vs ∷ certifier 1 12 right_voters ∷ certifier 2 13 right_voters ∷ [] }

new_written : slip_for withdrawing four course the ≡ new_slip right_voters
unfolding computing
new_written = refl

new_taken : read_answer four (slip_bytes (new_slip right_voters)) (records course) ≡ answered 3
unfolding computing
new_taken = refl

-- 53: the records named by certifiers and paths alone are too few
not_whole : read_answer four (slip_bytes (new_slip right_voters)) (records enough) ≡ refused 53
unfolding computing
not_whole = refl

-- 52: the share's author rejects it below all three, and is listed; not where it is the second locator of his reject; the old slip holds
abbrev the_other : TransactionLocator
the_other = record { block = ref 0 1 5; offset = 7 }

withdrawn : read_answer four (slip_bytes (new_slip right_voters)) (records (course_with (reject the none ∷ []))) ≡ refused 52
unfolding computing
withdrawn = refl

its_second : read_answer four (slip_bytes (new_slip right_voters)) (records (course_with (reject the_other (some the) ∷ []))) ≡ answered 3
unfolding computing
its_second = refl

old_holds : read_answer four (slip_bytes (slip right_voters)) (records (course_with (reject the none ∷ []))) ≡ answered 3
unfolding computing
old_holds = refl

-- ---- the slice that the writer is lent

written_length : length (slip_bytes (slip right_voters)) ≡ 308
unfolding computing
written_length = refl
