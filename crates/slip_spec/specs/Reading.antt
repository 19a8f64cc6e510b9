-- Reading a slip with the records that come with it. Assumes nothing: these are definitions.
use Rattle.std.specs.Prelude.{ℕ, Bool, true, false, not, ◌&&◌, ◌||◌, List, [], ◌∷◌, map, eqb, length}
use Rattle.std.proofs.Math.Option.{Option, none, some}
use Rattle.base.specs.Lists.{any_of, all_of, is_none, holds}
use Rattle.base.specs.Le.{Bytes}
use Rattle.base.specs.Checks.{Check, ◌⇒◌, Answer, checked}
use Rattle.committee.specs.Committee.{AuthorityIndex, Committee, broken, is_quorum}
use Rattle.committee_set.specs.AuthoritySet.{set_of, stake_of}
use Rattle.record_spec.specs.Reference.{TransactionLocator}
use Rattle.record_spec.specs.Block.{Block, author}
use Rattle.final_spec.specs.Voters.{votes_for}
use Rattle.final_readings_spec.specs.Readings.{Reading}
use Rattle.slip_spec.specs.Slip.{SlipVoter, Slip, names_reading, read_slip, slip_in}
use Rattle.slip_spec.specs.Supplied.{supplied_records, supplied_blocks, right_blocks}
use Rattle.slip_spec.specs.Paths.{named, Led, to_block, nowhere, not_given, leads}
use Rattle.slip_spec.specs.Ancestry.{lacks_ancestor, has_rejected}

-- ---- 53: "for one named, also by path, but not supplied"

unfoldable pub is_not_given : Led → Bool
is_not_given (to_block d) = false
is_not_given nowhere = false
is_not_given not_given = true

-- the block of the certifier, one that a path of its voters reaches or, in the new reading, one of its ancestry is not among those given
unfoldable pub missing_from : Reading → List Block → List SlipVoter → Option Block → Bool
missing_from reading bs vs none = true
missing_from reading bs vs (some b) = any_of (λ v. is_not_given (leads bs v.path b)) vs || lacks_ancestor reading bs b

unfoldable pub missing : List Block → Slip → Bool
missing bs s = any_of (λ k. missing_from s.reading bs k.voters (named bs k.reference)) s.certifiers

-- ---- a slip that holds

-- the block is one of the author that votes for the locator
unfoldable pub votes_as : TransactionLocator → AuthorityIndex → Block → Bool
votes_as l a d = eqb (author d) a && votes_for d l

-- 02: "every path ends at its author's vote"
unfoldable pub ends_at_vote : TransactionLocator → AuthorityIndex → Led → Bool
ends_at_vote l a (to_block d) = votes_as l a d
ends_at_vote l a nowhere = false
ends_at_vote l a not_given = false

-- 02: "every path ends at its author's vote, each block is unmarked and lists quorum voters"; a new slip "does not hold if a listed voter rejects
-- there"
unfoldable pub certifier_holds : Reading → Committee → List Block → TransactionLocator → List SlipVoter → Block → Bool
certifier_holds reading c bs l vs b =
    not b.marked
    && (all_of (λ v. ends_at_vote l v.author (leads bs v.path b)) vs
    && (all_of (λ v. not (has_rejected reading bs l b v.author)) vs
    && is_quorum c (stake_of c (set_of (map (λ v. v.author) vs)))))

-- 02: "and their authors hold quorum"
unfoldable pub slip_holds : Committee → List Block → Slip → Bool
slip_holds c bs s =
    all_of (λ k. holds (certifier_holds s.reading c bs s.locator k.voters) (named bs k.reference)) s.certifiers
    && is_quorum c (stake_of c (set_of (map (λ k. k.reference.authority) s.certifiers)))

-- 02: "Reading answers 5; 52 for a slip or records of another form, over 1,024 records, two of one reference or one that 20 to 22 or 24 to 29
-- refuse; 53 for one named, also by path, but not supplied; then 52 for a slip that does not hold", and "another first byte or none answers 61
-- right after 5"
unfoldable pub read_checks : Committee → Bytes → Bytes → List Check
read_checks c s rs =
    (broken c ⇒ 5)
    ∷ (not (names_reading s) ⇒ 61)
    ∷ (is_none (read_slip s) ⇒ 52)
    ∷ (is_none (supplied_records rs) ⇒ 52)
    ∷ (not (right_blocks c (supplied_blocks rs)) ⇒ 52)
    ∷ (missing (supplied_blocks rs) (slip_in s) ⇒ 53)
    ∷ (not (slip_holds c (supplied_blocks rs) (slip_in s)) ⇒ 52)
    ∷ []

-- the number of certifying blocks of a slip that is accepted
unfoldable pub read_answer : Committee → Bytes → Bytes → Answer ℕ
read_answer c s rs = checked (read_checks c s rs) (length (slip_in s).certifiers)
