-- A list asked for its next locator, and in bulk for as many stretches as a slice holds. Assumes nothing: these are definitions.
use Rattle.std.specs.Prelude.{ℕ, ◌*◌, ◌/◌, Bool, length, drop}
use mathlib.Core.List.{List, [], ◌∷◌, ◌++◌, map, flatten}
use Rattle.std.proofs.Math.Option.{Option}
use Rattle.base.specs.Lists.{pick}
use Rattle.base.specs.Le.{Bytes}
use Rattle.base.specs.Checks.{passes, Answer, checked}
use Rattle.committee.specs.Committee.{Committee}
use Rattle.record_spec.specs.Reference.{TransactionLocator}
use Rattle.words.specs.Words.{words_in, bytes_of}
use Rattle.final_spec.specs.Finality.{blocks_of}
use Rattle.final_spec.specs.NextFinal.{next_final_checks}
use Rattle.list_stretches_spec.specs.Stretches.{Listing, wide, FinalStretch, stretches, reached, more_follow}

-- ten words: author, round, the digest in four, first offset, end offset, certifying blocks, stake
unfoldable pub stretch_words : FinalStretch → List ℕ
stretch_words t = t.block.authority ∷ t.block.round ∷ (words_in 4 t.block.digest ++ (t.first ∷ t.end ∷ t.blocks ∷ t.stake ∷ []))

-- they cross as 80 bytes, of which the first 56 are the first locator as it stands in a record
unfoldable pub stretch_bytes : FinalStretch → Bytes
stretch_bytes t = bytes_of (stretch_words t)

-- the least locator of a list after a given one, or none; 01: "Queries check 5, 10"
unfoldable pub list_next : Committee → Bytes → Listing → Option TransactionLocator → Answer (Option TransactionLocator)
list_next c s k after = checked (next_final_checks c s) (k.next after)

-- ---- in bulk

-- how many stretches were written, and whether a locator follows them
pub record Given : Type 0 where
  pub stretches : ℕ
  pub more : Bool

unfoldable pub given_after : Listing → Option TransactionLocator → List FinalStretch → Given
given_after k after ts = record { stretches = length ts; more = more_follow k (reached after ts) }

-- how many of them bytes hold
abbrev pub stretch_room : Bytes → ℕ
stretch_room out = length out / 80

-- the bytes past them keep their content
unfoldable pub bytes_after : List FinalStretch → Bytes → Bytes
bytes_after ts out = flatten (map stretch_bytes ts) ++ drop (80 * length ts) out

-- what the question answers, and the slice that it was lent afterwards
pub record AskedBulk : Type 0 where
  pub answer : Answer Given
  pub out : Bytes

-- as many stretches of a list over the stored blocks as the slice holds; 01: "Queries check 5, 10"
unfoldable pub list_stretches : Committee → Bytes → Listing → Bytes → Option TransactionLocator → AskedBulk
list_stretches c s k out after =
    let ts : List FinalStretch = stretches c (blocks_of s) k (stretch_room out) after in
    record {
      answer = checked (next_final_checks c s) (given_after k after ts);
      out = pick (passes (next_final_checks c s)) (bytes_after ts out) out;
    }

-- the final list
abbrev pub final_stretches : Committee → Bytes → Bytes → Option TransactionLocator → AskedBulk
final_stretches c s out after = list_stretches c s (wide c (blocks_of s)) out after
