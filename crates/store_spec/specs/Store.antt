-- The store as lent: the records that it holds, in order or not, full or not, and as it is left (block_store.rs). Assumes nothing: these are definitions.
use Rattle.std.specs.Prelude.{ℕ, zero, suc, Bool, ◌&&◌, ◌||◌, List, [], ◌∷◌, ◌++◌, ltb, leb, length, take, drop}
use Rattle.std.proofs.Math.Option.{Option, none, some}
use Rattle.base.specs.Lists.{same}
use Rattle.base.specs.Le.{Bytes, le_at}
use Rattle.base.specs.Read.{Part, Read, give, fail, ◌>>=◌, items, number}
use Rattle.committee.specs.Committee.{Committee}
use Rattle.record_spec.specs.Record.{block_in}
use Rattle.store_spec.specs.Layout.{Record, read_record, used_by, layout}
use Rattle.store_spec.specs.Accept.{all_accepted}

-- 01: "used length 4", at byte 4 of the header, and "block count 2", at byte 8
unfoldable pub used_length : Bytes → ℕ
used_length s = le_at 4 s 4

unfoldable pub block_count : Bytes → ℕ
block_count s = le_at 2 s 8

unfoldable pub give_record : Option Record → Read Record
give_record none = fail
give_record (some r) = give r

-- 01: "next position 4, record length 4, record"
unfoldable pub read_entry : Read Record
read_entry = do
  next ← number 4
  n ← number 4
  bytes ← items n
  give_record (read_record bytes)

-- n entries and what they hold, the newest first
unfoldable pub read_entries : ℕ → Read (List Record)
read_entries zero = give []
read_entries (suc n) = do
  older ← read_entries n
  r ← read_entry
  give (r ∷ older)

unfoldable pub records_read : Option (Part (List Record)) → List Record
records_read none = []
records_read (some p) = p.value

-- the records that a store holds, the newest first (no records where the entries cannot be read: then it is not in order)
unfoldable pub records_of : Bytes → List Record
records_of s = records_read (read_entries (block_count s) (drop 16 s))

-- 01: "A lent slice of 16 to 2^32 - 1 bytes (any other length is 10)"
unfoldable pub allowed_length : Bytes → Bool
allowed_length s = leb 16 (length s) && leb (length s) 4294967295

-- 01: "In order means: what accepting the same records from fresh, under the given committee, leaves in the used part" (10)
unfoldable pub store_in_order : Committee → Bytes → Bool
store_in_order c s =
    allowed_length s
    && (same (take (used_length s) s) (layout (records_of s))
    && (leb (length (records_of s)) 1024 && all_accepted c (records_of s)))

-- a record that is to be accepted, from its bytes
unfoldable pub record_in : Bytes → Record
record_in r = record { bytes = r; block = block_in r }

-- 01: "13 store full (bytes or 1,024 blocks)"
unfoldable pub store_full : Bytes → Record → Bool
store_full s r =
    ltb (length s) (used_by (r ∷ records_of s))
    || leb 1024 (length (records_of s))

-- a store that holds these records, where it was s before: "Bytes past it are never touched"
unfoldable pub store_holding : List Record → Bytes → Bytes
store_holding rs s = layout rs ++ drop (used_by rs) s
