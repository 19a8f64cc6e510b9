-- The walk over the blocks in ascending reference order. Assumes nothing.
use mathlib.Core.Path.{◌≡◌, refl, sym, ◌∙◌}
use mathlib.Core.Bool.{Bool, true, false}
use mathlib.Core.List.{List, map}
use Prim.Native.Nat.{ℕ, ◌+◌, ◌*◌, ◌≤◌, ◌<◌}
use native.Mathlib.Omega.{arith}
use native.Mathlib.Decide.{ℕ_discrete}
use lib.Dec.{eqb}
use lib.ListN.{length, get_or}
use Rattle.base.specs.Lists.{pick}
use Rattle.base.specs.Le.{Bytes}
use Rattle.committee_set.specs.AuthoritySet.{AuthoritySet, nobody, inserted, united}
use Rattle.record_spec.specs.Reference.{TransactionLocator}
use Rattle.record_spec.specs.Block.{Block, author}
use Rattle.final_spec.specs.Voters.{own_vote, unions, spoken}
use Rattle.final_spec.specs.Finality.{blocks_of}
use Rattle.final_readings_spec.specs.Rejecting.{own_reject}
use Rattle.final_block_votes.specs.Walk.{SortedStore, block_at_place}
use Rattle.final_block_rejects.specs.Speeches.{says, speech_of}
use Rattle.final_voters.specs.Walk.{spoken_at}
use Rattle.final_voters.proofs.Visiting.{place_spoken}
use Rattle.list_includes_spec.specs.Places.{set_at}
use Rattle.list_ancestry.specs.Heard.{with_set, Owned, HeardBelow}
use Rattle.list_ancestry.proofs.Marking.{with_length, with_same, with_other}

-- whom a block speaks for
own_said : (rejecting : Bool) (b : Block) (l : TransactionLocator) → speech_of rejecting b l ≡ pick (says rejecting b l) (inserted nobody (author b)) nobody
unfolding own_reject own_vote
own_said true b l = refl
own_said false b l = refl

-- who speaks in the ancestry of a block
pub all_heard : (rejecting : Bool) (s : Bytes) (order : List ℕ) → SortedStore s order → (l : TransactionLocator) (k : ℕ) → k < length order → (own : List ℕ) →
    Owned rejecting s order l own → (below : AuthoritySet)
    → below ≡ unions (map (spoken (speech_of rejecting) (blocks_of s) l) (block_at_place s order k).includes)
    → united (pick (eqb (get_or own k 0) 1) (inserted nobody (author (block_at_place s order k))) nobody) below ≡ spoken_at (speech_of rejecting) s order l k
unfolding Owned
all_heard rejecting s order o l k h own w below e =
    rw (e, w k h, ← own_said rejecting (block_at_place s order k) l) (sym (place_spoken (speech_of rejecting) s order o k h l))

-- ---- what the walk has when it has read the blocks at the first k places

pub record Going (order memo : List ℕ) (k : ℕ) : Type 0 where
  pub inside : k ≤ length order
  pub long : length memo ≡ 2048

pub going_more : (order memo : List ℕ) (k : ℕ) → Going order memo k → k < length order → (v : AuthoritySet) → Going order (with_set memo k v) (k + 1)
going_more order memo k w h v = record { inside = omega arith; long = with_length memo k v ∙ w.long }

-- one place more
pub heard_more : (rejecting : Bool) (s : Bytes) (order : List ℕ) (l : TransactionLocator) (memo : List ℕ) (k : ℕ) → HeardBelow (speech_of rejecting) s order l
    memo k → 2 * k + 1 < length memo
    → (v : AuthoritySet) → v ≡ spoken_at (speech_of rejecting) s order l k → HeardBelow (speech_of rejecting) s order l (with_set memo k v) (k + 1)
heard_more rejecting s order l memo k w room v e j m = go (ℕ_discrete j k)
  where
    go : Dec (j ≡ k) → set_at (with_set memo k v) j ≡ spoken_at (speech_of rejecting) s order l j
    go (yes q) = rw q (with_same memo k v room ∙ e)
    go (no q) = with_other memo k v j q ∙ w j (omega arith)
