-- Machinery for the contracts of inner functions: which blocks speak, and who speaks in the ancestry of each. Assumes nothing: these are definitions.
use Rattle.std.specs.Prelude.{ℕ, ◌+◌, ◌*◌, ◌<◌, ◌≡◌, Bool, true, false, List, eqb, length, get_or, set}
use Rattle.base.specs.Le.{Bytes}
use Rattle.committee_set.specs.AuthoritySet.{AuthoritySet}
use Rattle.record_spec.specs.Reference.{TransactionLocator}
use Rattle.final_spec.specs.Voters.{Speech}
use Rattle.final_block_votes.specs.Walk.{block_at_place}
use Rattle.final_block_rejects.specs.Speeches.{says, speech_of}
use Rattle.final_voters.specs.Walk.{spoken_at}
use Rattle.list_includes_spec.specs.Places.{set_at}

-- who speaks in the ancestry of the block at a place, in two words
unfoldable pub with_set : List ℕ → ℕ → AuthoritySet → List ℕ
with_set memo p v = set (set memo (2 * p) v.low) (2 * p + 1) v.high

-- a place is marked exactly where its block rejects the locator, or votes for it
unfoldable pub Owned : Bool → Bytes → List ℕ → TransactionLocator → List ℕ → Type 0
Owned rejecting s order l own = (k : ℕ) → k < length order → eqb (get_or own k 0) 1 ≡ says rejecting (block_at_place s order k) l

-- it is known who speaks in the ancestry of the blocks at the first n places
abbrev pub HeardBelow : Speech → Bytes → List ℕ → TransactionLocator → List ℕ → ℕ → Type 0
HeardBelow own s order l memo n = (k : ℕ) → k < n → set_at memo k ≡ spoken_at own s order l k

-- of all of them, of whatever the marks are of
unfoldable pub HeardMarked : Bytes → List ℕ → List ℕ → List ℕ → Type 0
HeardMarked s order own memo = (rejecting : Bool) (l : TransactionLocator) → Owned rejecting s order l own → HeardBelow (speech_of rejecting) s order l memo
    (length order)

-- one of the first n places is marked, or none is
unfoldable pub AnyMarked : List ℕ → ℕ → Bool → Type 0
AnyMarked own n true = (k : ℕ) × ((k < n) × (eqb (get_or own k 0) 1 ≡ true))
AnyMarked own n false = (k : ℕ) → k < n → eqb (get_or own k 0) 1 ≡ false
