-- 02: loading a stake table from the file `stakes`. Assumes nothing: these are definitions.
use Rattle.std.specs.Prelude.{ℕ, ◌+◌, not, List, ◌∷◌, map, leb, length}
use Rattle.std.proofs.Math.Option.{Option, none, some}
use Rattle.std.proofs.lemmas.List.Edits.{sets}
use Rattle.base.specs.Lists.{pick, is_empty}
use Rattle.base.specs.Checks.{Check, ◌⇒◌, Answer, refused, answered, checked}
use Rattle.base.specs.Le.{Bytes, le_at}
use Rattle.committee.specs.Committee.{Stake, Committee, committee_checks, course_committee}
use Rattle.stakes_chain.specs.Layout.{place}
use Rattle.stakes_chain.specs.Chain.{chain_of}
use Rattle.stakes_names.specs.Names.{name_at, good_names}

-- 02: "records, each holding next index (2 bytes), name (16 bytes, ..) and stake (8), little-endian"
unfoldable pub stake_at : Bytes → ℕ → Stake
stake_at f i = le_at 8 f (place i + 18)

-- 02: "Loading gives members in chain order": the stakes in the records of the indexes
unfoldable pub members_at : Bytes → List ℕ → Committee
members_at f is = map (stake_at f) is

-- 02: "a bad or repeated name 57, .. before 1 to 4"
unfoldable pub member_checks : Bytes → List ℕ → List Check
member_checks f is = (not (good_names (map (name_at f) is)) ⇒ 57) ∷ committee_checks (members_at f is)

-- 02: "A broken chain answers 56", before these
unfoldable pub load_along : Bytes → Option (List ℕ) → Answer Committee
load_along f none = refused 56
load_along f (some is) = checked (member_checks f is) (members_at f is)

-- 02: "uses the loaded table, or the course committee if the file is empty", and "absent counts as empty"
unfoldable pub load : Bytes → Answer Committee
load f = pick (is_empty f) (answered course_committee) (load_along f (chain_of f))

-- what a call answers, and the words that it was lent afterwards
pub record LoadCall : Type 0 where
  pub answer : Answer ℕ
  pub stakes : List ℕ

-- the number of members, their stakes in front; 40, after all other numbers, where fewer words are lent than there are members
unfoldable pub loaded_into : Answer Committee → List ℕ → LoadCall
loaded_into (refused n) words = record { answer = refused n; stakes = words }
loaded_into (answered c) words =
    pick (leb (length c) (length words))
    (record { answer = answered (length c); stakes = sets words 0 c })
    (record { answer = refused 40; stakes = words })
