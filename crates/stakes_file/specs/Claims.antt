-- What loading gives, as claims. Assumes nothing: these are definitions.
use Rattle.std.specs.Prelude.{ℕ, ◌≡◌, ◌↔◌, false, List, []}
use Rattle.base.specs.Lists.{is_empty}
use Rattle.base.specs.Checks.{refused, answered, checked}
use Rattle.base.specs.Le.{Bytes}
use Rattle.committee.specs.Committee.{Committee, committee_checks, broken, course_committee}
use Rattle.stakes_chain.specs.Chain.{Chained}
use Rattle.stakes_chain.specs.Claims.{SameOnChain}
use Rattle.stakes_names.specs.Names.{WellNamed}
use Rattle.stakes_file.specs.Load.{members_at, load}

-- a table loaded from a file: "members in chain order", good names that differ, and a committee that 01 takes
pub record Loaded (f : Bytes) (c : Committee) : Type 0 where
  pub indexes : List ℕ
  pub chained : Chained f indexes
  pub members : c ≡ members_at f indexes
  pub named : WellNamed f indexes
  pub sound : broken c ≡ false

unfoldable pub LoadedMeant : Type 0
LoadedMeant = (f : Bytes) → is_empty f ≡ false → (c : Committee) → (load f ≡ answered c) ↔ Loaded f c

-- a table that is loaded, or the course committee, breaks none of 1 to 4, so 5 never follows
unfoldable pub NeverBroken : Type 0
NeverBroken = (f : Bytes) (c : Committee) → load f ≡ answered c → broken c ≡ false

-- 02: "or the course committee if the file is empty"
unfoldable pub EmptyFile : Type 0
EmptyFile = load [] ≡ answered course_committee

-- 02: "A broken chain answers 56 and a bad or repeated name 57, in that order, before 1 to 4"
unfoldable pub BrokenChain : Type 0
BrokenChain = (f : Bytes) → is_empty f ≡ false → (load f ≡ refused 56) ↔ ((is : List ℕ) → Chained f is → ⊥)

unfoldable pub BadNames : Type 0
BadNames = (f : Bytes) (is : List ℕ) → Chained f is → (load f ≡ refused 57) ↔ (WellNamed f is → ⊥)

unfoldable pub ThenCommittee : Type 0
ThenCommittee = (f : Bytes) (is : List ℕ) → Chained f is → WellNamed f is → load f ≡ checked (committee_checks (members_at f is)) (members_at f is)

-- records off the chain change nothing
unfoldable pub OffChain : Type 0
OffChain = (f g : Bytes) (is : List ℕ) → Chained f is → SameOnChain f g is → load f ≡ load g

pub record Claims : Type 0 where
  pub loaded : LoadedMeant
  pub never_broken : NeverBroken
  pub empty_file : EmptyFile
  pub broken_chain : BrokenChain
  pub bad_names : BadNames
  pub then_committee : ThenCommittee
  pub off_chain : OffChain
