-- The records that come with a slip, by their positions and by their places in ascending reference order. Assumes nothing: these are definitions.
use Rattle.std.specs.Prelude.{ℕ, ◌+◌, ◌≤◌, ◌<◌, ◌≡◌, Bool, true, not, ◌&&◌, List, length, get_or, take, drop}
use Rattle.base.specs.Lists.{is_none, ◌∈◌}
use Rattle.base.specs.Le.{Bytes, le_at}
use Rattle.base.specs.Checks.{passes}
use Rattle.committee.specs.Committee.{Committee}
use Rattle.record_spec.specs.Reference.{BlockReference, reference_before}
use Rattle.record_spec.specs.Block.{Block}
use Rattle.record_spec.specs.Record.{well_formed, block_in}
use Rattle.record_spec.specs.Verify.{head_checks, body_checks}
use Rattle.slip_spec.specs.Supplied.{supplied_records, supplied_blocks, right_blocks}

-- the record whose length stands at a position, and its block
unfoldable pub record_from : Bytes → ℕ → Bytes
record_from q p = take (le_at 4 q p) (drop (p + 4) q)

unfoldable pub block_from : Bytes → ℕ → Block
block_from q p = block_in (record_from q p)

-- a well-formed record stands there
pub record Framed (q : Bytes) (p : ℕ) : Type 0 where
  pub inside : p + 4 + le_at 4 q p ≤ length q
  pub formed : well_formed (record_from q p) ≡ true

-- the block at a place, and its reference
unfoldable pub block_at_place : Bytes → List ℕ → ℕ → Block
block_at_place q order j = block_from q (get_or order j 0)

abbrev pub reference_in : Bytes → List ℕ → ℕ → BlockReference
reference_in q order j = (block_at_place q order j).reference

-- positions of records in ascending reference order
pub record Sorted (q : Bytes) (order : List ℕ) : Type 0 where
  pub framed : (j : ℕ) → j < length order → Framed q (get_or order j 0)
  pub rises : (i j : ℕ) → i < j → j < length order → reference_before (reference_in q order i) (reference_in q order j) ≡ true

-- these are the positions of the records of these blocks
pub record Places (q : Bytes) (bs : List Block) (order : List ℕ) : Type 0 where
  pub sorted : Sorted q order
  pub given : (b : Block) → b ∈ bs → (j : ℕ) × (j < length order) × (block_at_place q order j ≡ b)
  pub only : (j : ℕ) → j < length order → block_at_place q order j ∈ bs

-- 02: "one that 20 to 22 or 24 to 29 refuse", here not
unfoldable pub right_record : Committee → Bytes → Bool
right_record c r = well_formed r && (passes (head_checks c (block_in r)) && passes (body_checks c (block_in r)))

-- 02: "records of another form, over 1,024 records, two of one reference or one that 20 to 22 or 24 to 29 refuse", here none of that
unfoldable pub right_records : Committee → Bytes → Bool
right_records c q = not (is_none (supplied_records q)) && right_blocks c (supplied_blocks q)
