-- The payload of a stored share. Assumes nothing: these are definitions.
use Rattle.std.specs.Prelude.{ℕ, ◌+◌, not, List, [], ◌∷◌, length, take, drop}
use Rattle.std.proofs.Math.Option.{Option, none, some}
use Rattle.std.proofs.Math.ListN.{get_elem?}
use Rattle.base.specs.Lists.{pick}
use Rattle.base.specs.Le.{Bytes}
use Rattle.base.specs.Checks.{Check, ◌⇒◌, passes, Answer, checked}
use Rattle.committee.specs.Committee.{Committee, broken}
use Rattle.record_spec.specs.Reference.{TransactionLocator}
use Rattle.record_spec.specs.Block.{Statement, share, accept, reject, vote_range}
use Rattle.record_spec.specs.Record.{statement_start}
use Rattle.store_spec.specs.Layout.{blocks, Entry, entries, lookup}
use Rattle.store_spec.specs.Shares.{is_stored_share}
use Rattle.store_spec.specs.Store.{records_of, store_in_order}

-- a stretch of the store
pub record StoreStretch : Type 0 where
  pub start : ℕ
  pub count : ℕ

-- the payload of the share whose statement starts at p: it stands after the kind byte and the length
unfoldable pub share_stretch : ℕ → Option Statement → Option StoreStretch
share_stretch p none = none
share_stretch p (some (share payload)) = some (record { start = p + 3; count = length payload })
share_stretch p (some (accept l)) = none
share_stretch p (some (reject l other)) = none
share_stretch p (some (vote_range r)) = none

-- the record stands after the entry's 8 bytes
unfoldable pub payload_of : Option Entry → ℕ → Option StoreStretch
payload_of none o = none
payload_of (some e) o = share_stretch (e.position + 8 + statement_start e.bytes o) (get_elem? e.block.statements o)

-- where the store has a share's payload; none where the locator names no stored share
unfoldable pub payload_at : Bytes → TransactionLocator → Option StoreStretch
payload_at s l = payload_of (lookup (entries (records_of s)) l.block) l.offset

-- 01: "Queries check 5, 10, .. then 41 for a payload's length", "41 no such share"
unfoldable pub payload_checks : Committee → Bytes → TransactionLocator → List Check
payload_checks c s l =
    (broken c ⇒ 5)
    ∷ (not (store_in_order c s) ⇒ 10)
    ∷ (not (is_stored_share (blocks (records_of s)) l) ⇒ 41)
    ∷ []

unfoldable pub stretch_of : Option StoreStretch → Bytes → Bytes
stretch_of none s = []
stretch_of (some p) s = take p.count (drop p.start s)

-- 01: "A share's payload is given back as the part of the store that holds it; for a refused committee, a refused store or a locator that
-- names no stored share the part is empty"
unfoldable pub payload : Committee → Bytes → TransactionLocator → Bytes
payload c s l = pick (passes (payload_checks c s l)) (stretch_of (payload_at s l) s) []

-- 01: "and a separate question gives its length or the refusal"
unfoldable pub payload_length : Committee → Bytes → TransactionLocator → Answer ℕ
payload_length c s l = checked (payload_checks c s l) (length (stretch_of (payload_at s l) s))
