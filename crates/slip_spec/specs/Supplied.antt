-- The records that come with a slip. Assumes nothing: these are definitions.
use Rattle.std.specs.Prelude.{Bool, not, ◌&&◌, length}
use mathlib.Core.List.{List, [], ◌++◌, map, flatten}
use Rattle.std.proofs.Math.Option.{Option, get_or}
use Rattle.base.specs.Lists.{all_of, pairwise}
use Rattle.base.specs.Le.{Bytes, le_bytes}
use Rattle.base.specs.Checks.{passes}
use Rattle.base.specs.Read.{Read, ◌>>=◌, items, number, up_to}
use Rattle.committee.specs.Committee.{Committee}
use Rattle.record_spec.specs.Reference.{same_reference}
use Rattle.record_spec.specs.Block.{Block}
use Rattle.record_spec.specs.Verify.{head_checks, body_checks}
use Rattle.store_spec.specs.Layout.{Record, read_record}
use Rattle.store_spec.specs.Store.{give_record}

-- 02: "records .. (each after a 4-byte length)"; one that 20 refuses is none
unfoldable pub read_supplied : Read Record
read_supplied = do
  n ← number 4
  bytes ← items n
  give_record (read_record bytes)

-- 02: "records of another form, over 1,024 records": none
unfoldable pub supplied_records : Bytes → Option (List Record)
supplied_records s = up_to 1024 read_supplied s

-- the records; no records where they are of another form
unfoldable pub supplied_in : Bytes → List Record
supplied_in s = get_or (supplied_records s) []

unfoldable pub supplied_blocks : Bytes → List Block
supplied_blocks s = map (λ r. r.block) (supplied_in s)

-- 02: "two of one reference or one that 20 to 22 or 24 to 29 refuse", here none of that
unfoldable pub right_blocks : Committee → List Block → Bool
right_blocks c bs =
    all_of (λ b. passes (head_checks c b) && passes (body_checks c b)) bs
    && pairwise (λ b d. not (same_reference b.reference d.reference)) bs

-- ---- the same, written

unfoldable pub supplied_bytes : List Record → Bytes
supplied_bytes rs = flatten (map (λ r. le_bytes 4 (length r.bytes) ++ r.bytes) rs)
