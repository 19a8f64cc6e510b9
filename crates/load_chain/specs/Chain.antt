-- Machinery for the contracts of inner functions: a share's chain of needed changes, in marks. Assumes nothing: these are definitions.
use Rattle.std.specs.Prelude.{ℕ, suc, ◌<◌, ◌≡◌, ◌↔◌, Bool, true, false, ◌&&◌, List, length, get_or}
use Rattle.base.specs.Le.{Bytes}
use Rattle.committee.specs.Committee.{Committee}
use Rattle.record_spec.specs.Reference.{TransactionLocator, locator}
use Rattle.types.specs.Values.{as_locator}
use Rattle.store_spec.specs.Store.{store_in_order}
use Rattle.store_spec.specs.Shares.{is_stored_share}
use Rattle.final_spec.specs.Finality.{blocks_of}
use Rattle.final_readings_spec.specs.Readings.{Reading, is_final_in}
use Rattle.final_block_votes.specs.Walk.{block_at_place}
use Rattle.load_spec.specs.Loadable.{is_loadable_in}
use Rattle.load_chain.specs.declared.Sight.{Sight}
use Rattle.load_chain.specs.declared.Sight.TheVariants.{No, Alone, Needs}

-- a stored share, and the place of its block
pub record Placed (s : Bytes) (order : List ℕ) (l : TransactionLocator) (k : ℕ) : Type 0 where
  pub inside : k < length order
  pub block : (block_at_place s order k).reference ≡ l.block
  pub stored : is_stored_share (blocks_of s) l ≡ true
  pub small : l.offset < 1024

-- in whichever reading, it is not loadable
unfoldable pub Never : Bytes → TransactionLocator → Type 0
Never s l = (reading : Reading) (c : Committee) → store_in_order c s ≡ true → is_loadable_in reading c (blocks_of s) l ≡ false

-- what a look says of a share, in whichever reading
unfoldable pub Seen : Bytes → List ℕ → TransactionLocator → Sight → Type 0
Seen s order l No = Never s l
Seen s order l (Alone k) =
    Placed s order l k
    × ((reading : Reading) (c : Committee) → store_in_order c s ≡ true → is_loadable_in reading c (blocks_of s) l ≡ is_final_in reading c (blocks_of s) l)
Seen s order l (Needs k m) =
    Placed s order l k
    × ((as_locator m).block.round < l.block.round)
    × ((reading : Reading) (c : Committee) → store_in_order c s ≡ true
    → is_loadable_in reading c (blocks_of s) l ≡ is_final_in reading c (blocks_of s) l && is_loadable_in reading c (blocks_of s) (as_locator m))

-- the share at an offset of the block at a place
abbrev pub share_in : Bytes → List ℕ → ℕ → ℕ → TransactionLocator
share_in s order k o = locator (block_at_place s order k).reference o

-- every marked share is final
unfoldable pub AllFinal : Reading → Committee → Bytes → List ℕ → List ℕ → Type 0
AllFinal reading c s order marks = (k o : ℕ) → k < length order → get_or marks k 0 ≡ suc o → is_final_in reading c (blocks_of s) (share_in s order k o) ≡ true

-- the marks are of stored shares, and all of these are final exactly where the share is loadable
pub record Chain (s : Bytes) (order : List ℕ) (l : TransactionLocator) (marks : List ℕ) : Type 0 where
  pub shares : (k o : ℕ) → k < length order → get_or marks k 0 ≡ suc o → is_stored_share (blocks_of s) (share_in s order k o) ≡ true
  pub means : (reading : Reading) (c : Committee) → store_in_order c s ≡ true → (is_loadable_in reading c (blocks_of s) l ≡ true)
      ↔ AllFinal reading c s order marks

unfoldable pub Collected : Bytes → List ℕ → TransactionLocator → List ℕ → Bool → Type 0
Collected s order l marks true = Chain s order l marks
Collected s order l marks false = Never s l
