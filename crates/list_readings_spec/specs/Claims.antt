-- What is claimed of the lists in both readings: each claim is owed with the calls. Assumes nothing: these are definitions.
use Rattle.std.specs.Prelude.{ℕ, ◌≡◌, ◌↔◌, Bool, true, false, List}
use Rattle.std.proofs.Math.Option.{Option, none}
use Rattle.base.specs.Lists.{pairwise, ◌∈◌, Once}
use Rattle.base.specs.Le.{Bytes}
use Rattle.committee.specs.Committee.{Committee, broken}
use Rattle.record_spec.specs.Reference.{TransactionLocator, locator_before}
use Rattle.record_spec.specs.Block.{Block}
use Rattle.store_spec.specs.Store.{store_in_order}
use Rattle.store_spec.specs.Shares.{StoredShare}
use Rattle.final_spec.specs.Finality.{blocks_of}
use Rattle.final_spec.specs.NextFinal.{AskedOf}
use Rattle.final_spec.specs.Claims.{Stored}
use Rattle.list_stretches_spec.specs.Stretches.{wide, stretches}
use Rattle.list_stretches_spec.specs.Claims.{Lawful, Gives}
use Rattle.final_readings_spec.specs.Readings.{Reading, old, withdrawing}
use Rattle.final_readings_spec.specs.Withdrawing.{FinalIn, NoRejects}
use Rattle.list_ordinary_spec.specs.Ordinary.{ordinary}
use Rattle.list_readings_spec.specs.Lists.{least_listed, listing, all_listed, next_listed, listed_stretches}

-- 02: "the Rust's stays": the lists of the old reading are those of the calls without a reading
pub record OldLists : Type 0 where
  pub wide : (c : Committee) (bs : List Block) → listing false old c bs ≡ wide c bs
  pub ordinary : (c : Committee) (bs : List Block) → listing true old c bs ≡ ordinary c bs

-- each list gives the least locator that it shows, and changes at its edges only; so its stretches are the longest there are, and one after the
-- other they are what the question, asked on, would give
unfoldable pub ListsLawful : Type 0
ListsLawful = (shared : Bool) (reading : Reading) (c : Committee) (bs : List Block) → Lawful bs (listing shared reading c bs)

unfoldable pub ListsGive : Type 0
ListsGive = (shared : Bool) (reading : Reading) (c : Committee) (s : Bytes) → broken c ≡ false → store_in_order c s ≡ true → (after : Option TransactionLocator)
    (ls : List TransactionLocator)
    → Gives (listing shared reading c (blocks_of s)) after ls ↔ AskedOf (next_listed shared reading c s) after ls

-- the question, asked on from the start until none, gives the whole list
unfoldable pub ListsAsked : Type 0
ListsAsked = (shared : Bool) (reading : Reading) (c : Committee) (s : Bytes) → broken c ≡ false → store_in_order c s ≡ true
    → AskedOf (next_listed shared reading c s) none (all_listed shared reading c (blocks_of s))

-- 02, Eight: "Wide membership keeps the exact condition ..; the ordinary list adds being a stored share", of either reading
pub record Exactly (shared : Bool) (reading : Reading) (c : Committee) (bs : List Block) : Type 0 where
  pub exactly : (l : TransactionLocator) → (l ∈ all_listed shared reading c bs) ↔ ((shared ≡ true → StoredShare bs l) × FinalIn reading c bs l)
  pub ascending : pairwise locator_before (all_listed shared reading c bs) ≡ true
  pub once : Once (all_listed shared reading c bs)

unfoldable pub ListsExactly : Type 0
ListsExactly = (shared : Bool) (reading : Reading) (c : Committee) (bs : List Block) → Stored c bs → Exactly shared reading c bs

-- 02: "With no rejects in the store both readings list the same", asked one by one and in bulk
pub record SameLists (shared : Bool) (c : Committee) (s : Bytes) : Type 0 where
  pub listing : listing shared withdrawing c (blocks_of s) ≡ listing shared old c (blocks_of s)
  pub all : all_listed shared withdrawing c (blocks_of s) ≡ all_listed shared old c (blocks_of s)
  pub next : (after : Option TransactionLocator) → next_listed shared withdrawing c s after ≡ next_listed shared old c s after
  pub bulk : (out : Bytes) (after : Option TransactionLocator) → listed_stretches shared withdrawing c s out after ≡ listed_stretches shared old c s out after

unfoldable pub SameWithoutRejects : Type 0
SameWithoutRejects = (shared : Bool) (c : Committee) (s : Bytes) → NoRejects (blocks_of s) → SameLists shared c s

-- 02: "order of arrival changes neither's lists": the same blocks, accepted in two orders
pub record SameInAnyOrder (shared : Bool) (reading : Reading) (c : Committee) (bs cs : List Block) : Type 0 where
  pub all : all_listed shared reading c bs ≡ all_listed shared reading c cs
  pub next : (after : Option TransactionLocator) → least_listed shared reading c bs after ≡ least_listed shared reading c cs after
  pub bulk : (n : ℕ) (after : Option TransactionLocator) → stretches c bs (listing shared reading c bs) n after ≡ stretches c cs (listing shared reading c cs)
      n after

unfoldable pub InAnyOrder : Type 0
InAnyOrder = (shared : Bool) (reading : Reading) (c : Committee) (bs cs : List Block) → Stored c bs → Stored c cs → ((x : Block) → x ∈ bs ↔ x ∈ cs)
    → SameInAnyOrder shared reading c bs cs

pub record Claims : Type 0 where
  pub old : OldLists
  pub lawful : ListsLawful
  pub gives : ListsGive
  pub asked : ListsAsked
  pub exactly : ListsExactly
  pub no_rejects : SameWithoutRejects
  pub order : InAnyOrder
