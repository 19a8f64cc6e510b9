-- The store's bytes as a function of the records that it holds (block_store.rs; the layout is 01's). Assumes nothing: these are definitions.
-- Records and entries are listed NEWEST FIRST throughout, so that what stands after a record in a list is what was there before it.
use Rattle.std.specs.Prelude.{ℕ, ◌+◌, length, replicate}
use mathlib.Core.List.{List, [], ◌∷◌, ◌++◌, map, flatten}
use Rattle.std.proofs.Math.Option
use Rattle.std.proofs.Math.Option.{Option, none, some}
use Rattle.base.specs.Lists.{pick, keep, find}
use Rattle.base.specs.Le.{Bytes, le_bytes}
use Rattle.record_spec.specs.Reference.{BlockReference, same_reference, reference_before}
use Rattle.record_spec.specs.Block.{Block}
use Rattle.record_spec.specs.Record.{block_of}

-- a well-formed record, with the block that it says
pub record Record : Type 0 where
  pub bytes : Bytes
  pub block : Block

abbrev pub blocks : List Record → List Block
blocks rs = map (λ r. r.block) rs

-- none is 20
unfoldable pub read_record : Bytes → Option Record
read_record r = Option.map (λ b. record { bytes = r; block = b }) (block_of r)

-- 01: "Entries follow in order of arrival: next position 4, record length 4, record", after a header of 16 bytes: the bytes used so far
unfoldable pub used_by : List Record → ℕ
used_by [] = 16
used_by (r ∷ older) = used_by older + (8 + length r.bytes)

-- a record where it stands
pub record Entry : Type 0 where
  pub position : ℕ
  pub bytes : Bytes
  pub block : Block

abbrev pub blocks_at : List Entry → List Block
blocks_at es = map (λ e. e.block) es

abbrev pub reference_of : Entry → BlockReference
reference_of e = e.block.reference

-- each record stands where the earlier ones end
unfoldable pub entries : List Record → List Entry
entries [] = []
entries (r ∷ older) = record { position = used_by older; bytes = r.bytes; block = r.block } ∷ entries older

-- the entry of the lesser reference
unfoldable pub lesser : Entry → Option Entry → Option Entry
lesser e none = some e
lesser e (some d) = pick (reference_before (reference_of e) (reference_of d)) (some e) (some d)

-- the entry of the least reference
unfoldable pub least : List Entry → Option Entry
least [] = none
least (e ∷ es) = lesser e (least es)

-- where an entry stands; zero where there is none
unfoldable pub position_of : Option Entry → ℕ
position_of none = 0
position_of (some e) = e.position

-- 01: "first position": the chain begins at the least reference
unfoldable pub first_position : List Entry → ℕ
first_position es = position_of (least es)

-- 01: "Next positions chain the entries in ascending reference order; zero ends the chain": the least reference above its own
unfoldable pub next_position : List Entry → Entry → ℕ
next_position es e = position_of (least (keep (λ d. reference_before (reference_of e) (reference_of d)) es))

-- 01: "next position 4, record length 4, record"
unfoldable pub entry_bytes : List Entry → Entry → Bytes
entry_bytes es e = le_bytes 4 (next_position es e) ++ (le_bytes 4 (length e.bytes) ++ e.bytes)

-- the bytes of some of the entries es, in order of arrival
unfoldable pub body_bytes : List Entry → List Entry → Bytes
body_bytes es [] = []
body_bytes es (e ∷ older) = body_bytes es older ++ entry_bytes es e

-- 01: "Header: first position 4, used length 4, block count 2, 6 zero bytes"
unfoldable pub header_bytes : List Record → Bytes
header_bytes rs =
    flatten
    (le_bytes 4 (first_position (entries rs))
    ∷ le_bytes 4 (used_by rs)
    ∷ le_bytes 2 (length rs)
    ∷ replicate 6 0
    ∷ [])

-- the used part of a store that holds these records
unfoldable pub layout : List Record → Bytes
layout rs = header_bytes rs ++ body_bytes (entries rs) (entries rs)

unfoldable pub lookup : List Entry → BlockReference → Option Entry
lookup es r = find (λ e. same_reference (reference_of e) r) es

-- an entry put among entries in ascending reference order
unfoldable pub placed : Entry → List Entry → List Entry
placed e [] = e ∷ []
placed e (d ∷ ds) = pick (reference_before (reference_of e) (reference_of d)) (e ∷ d ∷ ds) (d ∷ placed e ds)

-- the entries in ascending reference order
unfoldable pub ascending : List Entry → List Entry
ascending [] = []
ascending (e ∷ es) = placed e (ascending es)
