-- Machinery for the contracts of private functions: sizes, and the bytes of each part. Assumes nothing: these are definitions.
use Rattle.std.specs.Prelude.{ℕ, Some, None, ◌+◌, Bool, true, false, not, ◌||◌, ltb, leb, length}
use mathlib.Core.List.{List, [], ◌∷◌, ◌++◌, map, flatten}
use Rattle.std.proofs.Math.Option.{Option, none, some}
use Rattle.base.specs.Lists.{pick, any_of}
use Rattle.base.specs.Le.{Bytes, le_bytes}
use Rattle.base.specs.Checks.{passes}
use Rattle.record_spec.specs.Block.{Statement}
use Rattle.record_spec.specs.Record.{statement_bytes, edition_bytes, time_bytes, edition_for}
use Rattle.draft_spec.specs.Draft.{Draft}
use Rattle.draft_spec.specs.Joining.{joined}
use Rattle.draft_spec.specs.Writing.{record_bytes, is_long, form_checks}
use Rattle.std.specs.declared.option.Option as code

-- statements as they are written, after so many of so many bytes
unfoldable pub measured_on : ℕ → ℕ → Option (List Statement) → code.Option (ℕ × ℕ)
measured_on count bytes none = None
measured_on count bytes (some ws) =
    pick (any_of is_long ws || ltb 1024 (count + length ws)) None (Some (count + length ws, bytes + length (flatten (map statement_bytes ws))))

-- so many that a record's size is a number that fits
unfoldable pub low : code.Option (ℕ × ℕ) → Bool
low (Some (count, bytes)) = leb bytes 67110912
low None = true

-- the record of a draft without a time, unless 51 applies
unfoldable pub sized_up : Option Draft → code.Option (ℕ × ℕ)
sized_up none = None
sized_up (some d) = pick (passes (form_checks d)) (Some (length (joined d.statements), length (record_bytes none d))) None

-- the bytes of the statements
unfoldable pub bytes_in : Option (List Statement) → Bytes
bytes_in none = []
bytes_in (some ws) = flatten (map statement_bytes ws)

-- there are statements to write, and none is too long
unfoldable pub writable : Option (List Statement) → Bool
writable none = false
writable (some ws) = not (any_of is_long ws)

-- the first 48 bytes of a record, the 5 after them, and those up to the includes
unfoldable pub front_bytes : ℕ → ℕ → Bytes → Bytes
front_bytes author round digest = le_bytes 8 author ++ (le_bytes 8 round ++ digest)

unfoldable pub count_bytes : ℕ → ℕ → ℕ → Bytes
count_bytes mark includes statements = mark ∷ le_bytes 2 includes ++ le_bytes 2 statements

unfoldable pub part_bytes : Option ℕ → Bytes
part_bytes o = edition_bytes (edition_for o) ++ time_bytes o
