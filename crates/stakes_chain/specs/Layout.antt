-- 02: the file `stakes`, as bytes: an index and records. Assumes nothing: these are definitions.
use Rattle.std.specs.Prelude.{ℕ, ◌+◌, ◌-◌, ◌*◌, ◌/◌, ◌%◌, Bool, ◌&&◌, ltb, leb, eqb, length}
use Rattle.base.specs.Le.{Bytes, le_at}

-- 02: "over 65,536 bytes, or ending inside the index or a record, as broken": an index of 2 bytes and whole records of 26
unfoldable pub well_sized : Bytes → Bool
well_sized f = leb (length f) 65536 && (leb 2 (length f) && eqb ((length f - 2) % 26) 0)

unfoldable pub record_count : Bytes → ℕ
record_count f = (length f - 2) / 26

-- 02: "record indexes start at 1": where the record of an index stands
unfoldable pub place : ℕ → ℕ
place i = 2 + 26 * (i - 1)

-- 02: "a leading 2-byte index names the first"
unfoldable pub first_index : Bytes → ℕ
first_index f = le_at 2 f 0

-- 02: "records, each holding next index (2 bytes), name (16 bytes, ..) and stake (8), little-endian"
unfoldable pub next_index : Bytes → ℕ → ℕ
next_index f i = le_at 2 f (place i)

-- 02: "the indexes lie in the file"
unfoldable pub in_file : Bytes → ℕ → Bool
in_file f i = ltb 0 i && leb i (record_count f)
