-- What the computed answers mean, as claims, in both readings of a reject. Assumes nothing: these are definitions.
use Rattle.std.specs.Prelude.{ℕ, ◌≤◌, ◌≡◌, ◌↔◌, true, false, not, List, [], ◌∷◌, ◌++◌, map, length}
use Rattle.std.proofs.Math.Option.{some}
use Rattle.base.specs.Lists.{any_of, pairwise, keep, is_none, ◌∈◌, Once}
use Rattle.base.specs.Le.{Bytes}
use Rattle.base.specs.Checks.{passes}
use Rattle.committee.specs.Committee.{Committee, broken}
use Rattle.record_spec.specs.Reference.{TransactionLocator, same_locator, locator_before}
use Rattle.record_spec.specs.Record.{locator_bytes}
use Rattle.record_spec.specs.Claims.{are_bytes, fits_locator}
use Rattle.record_spec.specs.Block.{Block, is_share_at}
use Rattle.store_spec.specs.Layout.{Entry, reference_of, entries}
use Rattle.store_spec.specs.Store.{records_of, store_in_order}
use Rattle.store_spec.specs.Payload.{payload}
use Rattle.final_spec.specs.Finality.{blocks_of}
use Rattle.final_spec.specs.Claims.{Stored}
use Rattle.final_readings_spec.specs.Readings.{Reading, old, withdrawing, is_final_in}
use Rattle.final_readings_spec.specs.Withdrawing.{NoRejects}
use Rattle.final_readings_spec.specs.NextFinal.{final_list_in}
use Rattle.store_spec.specs.Shares.{is_stored_share}
use Rattle.list_ordinary_spec.specs.Shares.{stored_shares}
use Rattle.list_ordinary_spec.specs.Claims.{SameBlocks}
use Rattle.list_readings_spec.specs.Lists.{all_listed}
use Rattle.load_spec.specs.Needs.{needed_by, SharedAs, payload_in, without_payloads}
use Rattle.load_spec.specs.Loadable.{Loadable, LoadableIn, is_loadable_in, loadable_list_in, loadable_after, found_on}
use Rattle.load_spec.specs.Question.{place_words, named_by, list_checks, loadable_question_in, loadable_questions_in}

-- 02: "A payload may begin with the byte 1 and a 56-byte locator": what was written there is needed, whatever follows
unfoldable pub NeedsWhatIsWritten : Type 0
NeedsWhatIsWritten = (l : TransactionLocator) (rest : Bytes) → fits_locator l ≡ true → needed_by (1 ∷ locator_bytes l ++ rest) ≡ some l

-- the payload found is that of the stored share; there is one exactly for a stored share
pub record PayloadMeant (bs : List Block) (l : TransactionLocator) : Type 0 where
  pub exactly : (p : Bytes) → (payload_in bs l ≡ some p) ↔ SharedAs bs l p
  pub stored : not (is_none (payload_in bs l)) ≡ is_stored_share bs l

-- the computed answer is the relation
unfoldable pub LoadableMeant : Type 0
LoadableMeant = (reading : Reading) (c : Committee) (bs : List Block) → Stored c bs → (l : TransactionLocator)
    → (is_loadable_in reading c bs l ≡ true) ↔ LoadableIn reading c bs l

-- in the old reading it is what it was before there were two
unfoldable pub OldLoading : Type 0
OldLoading = (c : Committee) (bs : List Block) (l : TransactionLocator) → LoadableIn old c bs l ↔ Loadable c bs l

-- 02: "a needed change .. always precedes those needing it": it stands before them in the list
unfoldable pub NeededFirst : Reading → Committee → List Block → Type 0
NeededFirst reading c bs = (xs : List TransactionLocator) (l : TransactionLocator) (ys : List TransactionLocator) → loadable_list_in reading c bs ≡ xs ++ l ∷ ys
    → (p : Bytes) (m : TransactionLocator) → SharedAs bs l p → needed_by p ≡ some m → m ∈ xs

pub record ListMeant (reading : Reading) (c : Committee) (bs : List Block) : Type 0 where
  -- 02: "The list holds each loadable share once and no other"
  pub exactly : (l : TransactionLocator) → (l ∈ loadable_list_in reading c bs) ↔ LoadableIn reading c bs l
  pub once : Once (loadable_list_in reading c bs)
  -- 02: "in ascending locator order"
  pub ascending : pairwise locator_before (loadable_list_in reading c bs) ≡ true
  pub needed_first : NeededFirst reading c bs
  -- yes or no agrees with the list
  pub agrees : (l : TransactionLocator) → is_loadable_in reading c bs l ≡ any_of (same_locator l) (loadable_list_in reading c bs)
  -- every loadable share is in the ordinary list of the same reading
  pub final : (l : TransactionLocator) → l ∈ loadable_list_in reading c bs → l ∈ all_listed true reading c bs
  -- there are no more than stored shares
  pub few : length (loadable_list_in reading c bs) ≤ length (stored_shares bs)

unfoldable pub ListsLoadable : Type 0
ListsLoadable = (reading : Reading) (c : Committee) (bs : List Block) → Stored c bs → ListMeant reading c bs

-- the same for every order of arrival
pub record SameLoadable (reading : Reading) (c : Committee) (bs cs : List Block) : Type 0 where
  pub answer : (l : TransactionLocator) → is_loadable_in reading c bs l ≡ is_loadable_in reading c cs l
  pub list : loadable_list_in reading c bs ≡ loadable_list_in reading c cs

unfoldable pub AnyOrder : Type 0
AnyOrder = (reading : Reading) (c : Committee) (bs cs : List Block) → Stored c bs → Stored c cs → SameBlocks bs cs → SameLoadable reading c bs cs

-- what is loadable where owners may withdraw is loadable where they cannot
unfoldable pub LoadableInBoth : Type 0
LoadableInBoth = (c : Committee) (bs : List Block) → Stored c bs → (l : TransactionLocator) → LoadableIn withdrawing c bs l → LoadableIn old c bs l

-- 02: "With no rejects in the store both readings list the same": so of loadable shares, and yes or no
pub record SameLoading (c : Committee) (s : Bytes) : Type 0 where
  pub answer : (l : TransactionLocator) → loadable_question_in withdrawing c s l ≡ loadable_question_in old c s l
  pub list : loadable_list_in withdrawing c (blocks_of s) ≡ loadable_list_in old c (blocks_of s)
  pub places : (ps : List ℕ) → loadable_questions_in withdrawing c s ps ≡ loadable_questions_in old c s ps

unfoldable pub SameWithoutRejects : Type 0
SameWithoutRejects = (c : Committee) (s : Bytes) → NoRejects (blocks_of s) → SameLoading c s

-- going through shares in ascending order: each is loadable exactly when it is final and what it needs is among those found so far
pub record Walked (reading : Reading) (c : Committee) (bs : List Block) (zs : List TransactionLocator) : Type 0 where
  pub step : (xs : List TransactionLocator) (l : TransactionLocator) (ys : List TransactionLocator) → zs ≡ xs ++ l ∷ ys
      → is_loadable_in reading c bs l ≡ loadable_after reading c bs (keep (is_loadable_in reading c bs) xs) l
  pub found : found_on reading c bs [] zs ≡ loadable_list_in reading c bs
  pub kept : keep (is_loadable_in reading c bs) zs ≡ loadable_list_in reading c bs

-- so through all stored shares
unfoldable pub WalkedShares : Type 0
WalkedShares = (reading : Reading) (c : Committee) (bs : List Block) → Stored c bs → Walked reading c bs (stored_shares bs)

-- and through the ordinary list, where each is final
unfoldable pub WalkedFinals : Type 0
WalkedFinals = (reading : Reading) (c : Committee) (bs : List Block) → Stored c bs → Walked reading c bs (all_listed true reading c bs)

-- 02: "Feeding and finality do not look at payloads": blocks that differ in payloads alone have the same final locators
unfoldable pub PayloadsUnseen : Type 0
PayloadsUnseen = (reading : Reading) (c : Committee) (bs cs : List Block) → map without_payloads bs ≡ map without_payloads cs
    → ((l : TransactionLocator) → is_final_in reading c bs l ≡ is_final_in reading c cs l) × (final_list_in reading c bs ≡ final_list_in reading c cs)

-- what is loadable stays loadable when blocks are added
unfoldable pub StaysLoadable : Type 0
StaysLoadable = (reading : Reading) (c : Committee) (bs cs : List Block) → Stored c bs → Stored c cs → ((b : Block) → b ∈ bs → b ∈ cs)
    → (l : TransactionLocator) → LoadableIn reading c bs l → LoadableIn reading c cs l

-- ---- over a store

-- the payload that decides is the one that the payload question gives back
unfoldable pub PayloadGiven : Type 0
PayloadGiven = (c : Committee) (s : Bytes) → are_bytes s ≡ true → broken c ≡ false → store_in_order c s ≡ true → (l : TransactionLocator) (p : Bytes)
    → payload_in (blocks_of s) l ≡ some p → payload c s l ≡ p

-- a place names its share: the entry that stands there, and the offset
pub record PlaceNames (s : Bytes) (l : TransactionLocator) : Type 0 where
  pub entry : Entry
  pub stands : entry ∈ entries (records_of s)
  pub words : place_words (entries (records_of s)) l ≡ entry.position ∷ l.offset ∷ []
  pub named : reference_of entry ≡ l.block
  pub shared : is_share_at entry.block l.offset ≡ true

unfoldable pub PlacesName : Type 0
PlacesName = (c : Committee) (s : Bytes) → store_in_order c s ≡ true → (l : TransactionLocator) → l ∈ stored_shares (blocks_of s) → PlaceNames s l

-- a slice that is long enough keeps its length
unfoldable pub PlacesFit : Type 0
PlacesFit = (reading : Reading) (c : Committee) (s : Bytes) (ps : List ℕ) → length (loadable_questions_in reading c s ps).places ≡ length ps

-- read back, the places are the list
unfoldable pub PlacesRead : Type 0
PlacesRead = (reading : Reading) (c : Committee) (s : Bytes) (ps : List ℕ) → passes (list_checks c s ps) ≡ true
    → named_by s (length (loadable_list_in reading c (blocks_of s))) (loadable_questions_in reading c s ps).places ≡ loadable_list_in reading c (blocks_of s)

pub record Claims : Type 0 where
  pub needs : NeedsWhatIsWritten
  pub payload : (c : Committee) (bs : List Block) → Stored c bs → (l : TransactionLocator) → PayloadMeant bs l
  pub loadable : LoadableMeant
  pub old : OldLoading
  pub list : ListsLoadable
  pub any_order : AnyOrder
  pub both : LoadableInBoth
  pub no_rejects : SameWithoutRejects
  pub walked_shares : WalkedShares
  pub walked_finals : WalkedFinals
  pub unseen : PayloadsUnseen
  pub stays : StaysLoadable
  pub places_name : PlacesName
  pub places_fit : PlacesFit
  pub places_read : PlacesRead
  pub payload_given : PayloadGiven
