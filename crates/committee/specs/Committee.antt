-- A committee of stakes, quorum and valid stake (committee.rs). Assumes nothing: these are definitions.
use Rattle.std.specs.Prelude.{ℕ, ◌*◌, Bool, not, List, [], ◌∷◌, ltb, eqb, length, get_or}
use Rattle.base.specs.Lists.{any_of, sum_of}
use Rattle.base.specs.Checks.{Check, ◌⇒◌, passes, Answer, checked}

-- 01: "Authority numbers, rounds and stakes are three sorts of 64-bit number"; here all are numbers, and the names say which is meant
abbrev pub AuthorityIndex : Type 0
AuthorityIndex = ℕ

abbrev pub RoundNumber : Type 0
RoundNumber = ℕ

abbrev pub Stake : Type 0
Stake = ℕ

-- the stake of each authority, by its number
abbrev pub Committee : Type 0
Committee = List Stake

unfoldable pub total_stake : Committee → Stake
total_stake c = sum_of c

-- 01: "A committee is 1 to 128 stakes, each above 0, total T at most 2^63 - 1", and "1 empty; 2 a zero stake; 3 over 128; 4 T over 2^63 - 1"
unfoldable pub committee_checks : Committee → List Check
committee_checks c =
    (eqb (length c) 0 ⇒ 1)
    ∷ (any_of (λ s. eqb s 0) c ⇒ 2)
    ∷ (ltb 128 (length c) ⇒ 3)
    ∷ (ltb 9223372036854775807 (total_stake c) ⇒ 4)
    ∷ []

-- 01: "Setting a committee checks 1 to 4 ascending"; a committee that is taken is answered with its total T
unfoldable pub new_committee : Committee → Answer Stake
new_committee c = checked (committee_checks c) (total_stake c)

-- 01: "5 a committee value breaking any of these"
unfoldable pub broken : Committee → Bool
broken c = not (passes (committee_checks c))

-- 01: "Stake s is quorum when 3s > 2T", here of any T
abbrev pub quorum_of : Stake → Stake → Bool
quorum_of t s = ltb (2 * t) (3 * s)

-- 01: "and valid when 3s > T"
abbrev pub valid_of : Stake → Stake → Bool
valid_of t s = ltb t (3 * s)

-- the same of a committee's total
unfoldable pub is_quorum : Committee → Stake → Bool
is_quorum c s = quorum_of (total_stake c) s

unfoldable pub is_valid : Committee → Stake → Bool
is_valid c s = valid_of (total_stake c) s

-- an author whom the committee knows
unfoldable pub known : Committee → AuthorityIndex → Bool
known c a = ltb a (length c)

unfoldable pub get_stake : Committee → AuthorityIndex → Stake
get_stake c a = get_or c a 0

-- 01: "a course committee of stakes 5, 3, 3, 2, 2, 1, 1"
unfoldable pub course_committee : Committee
course_committee = 5 ∷ 3 ∷ 3 ∷ 2 ∷ 2 ∷ 1 ∷ 1 ∷ []
