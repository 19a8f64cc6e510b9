-- What the computed layout means, as claims. Assumes nothing: these are definitions.
use Rattle.std.specs.Prelude.{ℕ, ◌≤◌, ◌≡◌, ◌↔◌, true, false, List, [], ◌∷◌, ◌++◌, length, take}
use Rattle.std.proofs.Math.Option.{some}
use Rattle.std.proofs.Math.ListN.{get_elem?}
use Rattle.base.specs.Lists.{◌∈◌}
use Rattle.base.specs.Le.{Bytes}
use Rattle.base.specs.Checks.{passes}
use Rattle.committee.specs.Committee.{Committee, broken}
use Rattle.record_spec.specs.Reference.{TransactionLocator, reference_before}
use Rattle.record_spec.specs.Block.{Block, share}
use Rattle.record_spec.specs.Claims.{are_bytes}
use Rattle.store_spec.specs.Layout.{Record, read_record, Entry, reference_of, next_position, layout, entries, lookup}
use Rattle.store_spec.specs.Accept.{block_checks}
use Rattle.store_spec.specs.Shares.{is_stored_share, StoredShare}
use Rattle.store_spec.specs.Payload.{payload}
use Rattle.store_spec.specs.Store.{used_length, records_of, store_in_order, store_full, store_holding}

-- 01: "Next positions chain the entries in ascending reference order; zero ends the chain": no entry stands between e and the one at its next position
pub data NextOf (es : List Entry) (e : Entry) : ℕ → Type 0 where
  next : (d : Entry) → d ∈ es → reference_before (reference_of e) (reference_of d) ≡ true
      → ((f : Entry) → f ∈ es → reference_before (reference_of e) (reference_of f) ≡ true → reference_before (reference_of f) (reference_of d) ≡ false)
      → NextOf es e d.position
  last : ((f : Entry) → f ∈ es → reference_before (reference_of e) (reference_of f) ≡ false) → NextOf es e 0

unfoldable pub ChainMeant : Type 0
ChainMeant = (es : List Entry) (e : Entry) → NextOf es e (next_position es e)

-- 01: "what accepting the same records from fresh .. leaves": a store that held no records in front, and then records accepted one after the other,
-- the newest first, each by 20 to 30 after those before it and with room for it
pub data Accepts (c : Committee) (s : Bytes) : List Record → Bytes → Type 0 where
  from_fresh : Accepts c s [] (store_holding [] s)
  accepting : {rs : List Record} {t : Bytes} (r : Record) → Accepts c s rs t → read_record r.bytes ≡ some r
      → passes (block_checks c (records_of t) r.block) ≡ true → store_full t r ≡ false
      → Accepts c s (r ∷ rs) (store_holding (r ∷ records_of t) t)

-- a store is in order only where accepting its records from fresh, in a slice of its length, leaves its used part
pub record AcceptedFrom (c : Committee) (s fresh : Bytes) : Type 0 where
  pub after : Bytes
  pub accepts : Accepts c fresh (records_of s) after
  pub used : take (used_length s) after ≡ take (used_length s) s

unfoldable pub InOrderAccepted : Type 0
InOrderAccepted = (c : Committee) (s : Bytes) → store_in_order c s ≡ true → (fresh : Bytes) → length fresh ≡ length s → AcceptedFrom c s fresh

-- and wherever it does: a fresh store is in order, and accepting keeps it so
unfoldable pub FreshInOrder : Type 0
FreshInOrder = (c : Committee) (past : Bytes) → length (layout [] ++ past) ≤ 4294967295 → store_in_order c (layout [] ++ past) ≡ true

unfoldable pub AcceptingKeepsOrder : Type 0
AcceptingKeepsOrder = (c : Committee) (s : Bytes) (r : Record) → store_in_order c s ≡ true → read_record r.bytes ≡ some r
    → passes (block_checks c (records_of s) r.block) ≡ true → store_full s r ≡ false
    → store_in_order c (store_holding (r ∷ records_of s) s) ≡ true

-- the test for a stored share says what it should
unfoldable pub StoredShareMeant : Type 0
StoredShareMeant = (bs : List Block) (l : TransactionLocator) → (is_stored_share bs l ≡ true) ↔ StoredShare bs l

-- 01: "A share's payload is given back as the part of the store that holds it"
unfoldable pub PayloadMeant : Type 0
PayloadMeant = (c : Committee) (s : Bytes) → are_bytes s ≡ true → broken c ≡ false → store_in_order c s ≡ true
    → (l : TransactionLocator) (e : Entry) (v : Bytes) → lookup (entries (records_of s)) l.block ≡ some e
    → get_elem? e.block.statements l.offset ≡ some (share v) → payload c s l ≡ v

pub record Claims : Type 0 where
  pub chain : ChainMeant
  pub accepted : InOrderAccepted
  pub fresh : FreshInOrder
  pub accepting : AcceptingKeepsOrder
  pub shares : StoredShareMeant
  pub payload : PayloadMeant
