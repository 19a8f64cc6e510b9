-- Machinery for the contracts of inner functions: what the marks say of every locator for which they are right. Assumes nothing: these are definitions.
use Rattle.std.specs.Prelude.{ℕ, ◌≤◌, ◌<◌, ◌≡◌, Bool, true, false, List, eqb, length, get_or, take, drop, None, Some, Option}
use Rattle.base.specs.Le.{Bytes}
use Rattle.committee.specs.Committee.{Committee, total_stake}
use Rattle.committee.specs.declared.Stake.{Stake}
use Rattle.committee_set.specs.AuthoritySet.{AuthoritySet, member}
use Rattle.record_spec.specs.Reference.{TransactionLocator}
use Rattle.record_spec.specs.Block.{Block, author}
use Rattle.final_spec.specs.Finality.{blocks_of}
use Rattle.final_readings_spec.specs.Answers.{as_reading}
use Rattle.list_stretches_spec.specs.Stretches.{Listing}
use Rattle.list_readings_spec.specs.Answers.{is_ordinary}
use Rattle.list_readings_spec.specs.Lists.{listing}
use Rattle.final_block_votes.specs.Walk.{Sorted, block_at_place}
use Rattle.final_certifying.specs.declared.Certifiers.{Certifiers}
use Rattle.list_include_sets.specs.Sets.{Included}
use Rattle.list_ancestry.specs.Heard.{AnyMarked}
use Rattle.list_walk.specs.Walk.{CertifyFlagged}
use Rattle.list_lanes.specs.Lanes.{lane_ranges}
use Rattle.list_lanes.specs.declared.Wanted.{Wanted}
use Rattle.list_sweep.specs.Sweep.{MarksAt}
use Rattle.final_certifying.specs.declared.Certifiers as certifiers

-- the list that is asked for
abbrev pub list_for : Wanted → Committee → List Block → Listing
list_for w c bs = listing (is_ordinary w.list) (as_reading w.reading) c bs

-- what a walk over the blocks stands on
pub record Walkable (c : Committee) (total : Stake) (s : Bytes) (order sets marks flags : List ℕ) : Type 0 where
  pub sorted : Sorted c s order
  pub whole : total.0 ≡ total_stake c
  pub few : length order ≤ 1024
  pub included : Included s order sets (length order)
  pub marked : length marks ≡ 3072
  pub flagged : length flags ≡ 1024

-- the authors of those of the first n blocks whose votes are marked are in the set
unfoldable pub MarkedIn : Bytes → List ℕ → List ℕ → ℕ → AuthoritySet → Type 0
MarkedIn s order marks n v = (k : ℕ) → k < n → eqb (get_or marks k 0) 1 ≡ true → member v (author (block_at_place s order k)) ≡ true

-- they certify every locator for which the marks are right
unfoldable pub CertifiedAll : Wanted → Committee → Bytes → List ℕ → List ℕ → List ℕ → Certifiers → Type 0
CertifiedAll w c s order marks flags r = (l : TransactionLocator) → MarksAt (lane_ranges w s order) marks l → CertifyFlagged (as_reading w.reading) c s order
    l flags r

-- it is marked that the locator is a stored share, where the list asks for one
pub record MayShow (w : Wanted) (marks : List ℕ) (n : ℕ) (r : Bool) : Type 0 where
  pub wide : is_ordinary w.list ≡ false → r ≡ true
  pub ordinary : is_ordinary w.list ≡ true → AnyMarked (take 1024 (drop 2048 marks)) n r

-- the list shows every locator for which the marks are right, with these certifying blocks; or none of them
unfoldable pub ShownAll : Wanted → Committee → Bytes → List ℕ → List ℕ → List ℕ → Option certifiers.Certifiers → Type 0
ShownAll w c s order marks flags (Some f) =
    (l : TransactionLocator) → MarksAt (lane_ranges w s order) marks l → ((list_for w c (blocks_of s)).shows l ≡ true) × CertifyFlagged (as_reading w.reading) c
    s order l flags f
ShownAll w c s order marks flags None = (l : TransactionLocator) → MarksAt (lane_ranges w s order) marks l → (list_for w c (blocks_of s)
    ).shows l ≡ false
