-- Machinery for the contracts of inner functions: the next locator that a list shows, by a sweep over the edges. Assumes nothing: these are definitions.
use Rattle.std.specs.Prelude.{ℕ, ◌≡◌, true, false, List, None, Some}
use Rattle.std.proofs.Math.Option.{Option, none, some}
use Rattle.base.specs.Le.{Bytes}
use Rattle.committee.specs.Committee.{Committee}
use Rattle.committee.specs.declared.Stake.{Stake}
use Rattle.record_spec.specs.Reference.{TransactionLocator, locator_before}
use Rattle.types.specs.Values.{as_locator}
use Rattle.final_spec.specs.NextFinal.{is_after}
use Rattle.final_spec.specs.Finality.{blocks_of}
use Rattle.final_readings_spec.specs.Answers.{as_reading}
use Rattle.list_walk.specs.Walk.{Flags, CertifyFlagged}
use Rattle.list_reach.specs.Reach.{From}
use Rattle.list_lanes.specs.Lanes.{lane_ranges}
use Rattle.list_lanes.specs.declared.Wanted.{Wanted}
use Rattle.list_sweep.specs.Sweep.{MarksAt, Stands, Room}
use Rattle.list_marked.specs.Marked.{list_for, Walkable}
use Rattle.list_shown.specs.declared.FoundStretch as found
use Rattle.std.specs.declared.option.Option as code

-- what the list is lent: for the walk and for the sweep
pub record Lent (c : Committee) (total : Stake) (s : Bytes) (order sets t marks flags : List ℕ) : Type 0 where
  pub walk : Walkable c total s order sets marks flags
  pub room : Room s order t marks

-- nothing is shown between a locator and another, which is there or after it, and after it where it is shown
pub record Reaching (w : Wanted) (c : Committee) (s : Bytes) (last : Option TransactionLocator) (h : TransactionLocator) : Type 0 where
  pub hidden : (m : TransactionLocator) → is_after last m ≡ true → locator_before m h ≡ true → (list_for w c (blocks_of s)).shows m ≡ false
  pub from : From last h
  pub later : (list_for w c (blocks_of s)).shows h ≡ true → is_after last h ≡ true

-- the list shows every locator for which the marks are right, and these words say who certifies it
unfoldable pub AllAlike : Wanted → Committee → Bytes → List ℕ → List ℕ → List ℕ → Type 0
AllAlike w c s order marks flags =
    (l : TransactionLocator) → MarksAt (lane_ranges w s order) marks l → ((list_for w c (blocks_of s)).shows l ≡ true) × Flags (as_reading w.reading) c s order
    l flags

-- a locator that the list shows, the next one after each from which the sweep reached where it stood
pub record FoundHere (w : Wanted) (c : Committee) (s : Bytes) (order : List ℕ) (h : TransactionLocator) (t marks flags : List ℕ) (f : found.FoundStretch) :
    Type 0 where
  pub stands : Stands (lane_ranges w s order) s t marks f.sweep
  pub alike : AllAlike w c s order marks flags
  pub right : CertifyFlagged (as_reading w.reading) c s order (as_locator f.sweep.here) flags f.found
  pub is : (last : Option TransactionLocator) → Reaching w c s last h → (list_for w c (blocks_of s)).next last ≡ some (as_locator f.sweep.here)

unfoldable pub NextFound : Wanted → Committee → Bytes → List ℕ → TransactionLocator → List ℕ → List ℕ → List ℕ → code.Option found.FoundStretch → Type 0
NextFound w c s order h t marks flags (Some f) = FoundHere w c s order h t marks flags f
NextFound w c s order h t marks flags None = (last : Option TransactionLocator) → Reaching w c s last h → (list_for w c (blocks_of s)).next
    last ≡ none
