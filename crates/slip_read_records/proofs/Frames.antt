-- A record by its position, and the search by reference. Assumes nothing.
use mathlib.Core.Path.{◌≡◌}
use mathlib.Core.List.{List}
use Prim.Native.Nat.{ℕ, ◌+◌, ◌-◌, ◌≤◌, ◌<◌}
use native.Mathlib.Nat.{add-sub_cancel_left}
use lib.ListN.{length, get_or, take, drop}
use Rattle.base.specs.Le.{Bytes, le_at}
use Rattle.record_spec.specs.Reference.{BlockReference}
use Rattle.record_reference_bytes.specs.Step.{reference_at}
use Rattle.record_reader.proofs.Shape.{reference_within}
use Rattle.record_reference_search.specs.Places.{reference_from, Ascending, Between, FoundAmong}
use Rattle.record_reference_search.proofs.Known.{known_ascend, known_at, known_between}
use Rattle.slip_read_records.specs.Places.{record_from, block_from, Framed, block_at_place, reference_in, Sorted}
use Rattle.std.specs.Prelude.{Err, Ok, Result}

-- a record lent as a part of all
pub record-part : (q : Bytes) (p end : ℕ) → end ≡ p + 4 + le_at 4 q p → take (end - (p + 4)) (drop (p + 4) q) ≡ record_from q p
unfolding record_from
record-part q p end h = rw (h, add-sub_cancel_left (p + 4) (le_at 4 q p))

-- a record begins with the reference of its block
pub framed_reference : (q : Bytes) (p : ℕ) → Framed q p → (p + 4 + 48 ≤ length q) × (reference_at q (p + 4) ≡ (block_from q p).reference)
unfolding record_from block_from
framed_reference q p h = reference_within q (p + 4) (le_at 4 q p) h.formed

-- ---- by reference

module _ (q : Bytes) (order : List ℕ) (s : Sorted q order) where
  stand : (j : ℕ) → j < length order → (get_or order j 0 + 4 + 48 ≤ length q) × (reference_at q (get_or order j 0 + 4) ≡ reference_in q order j)
  unfolding block_at_place
  stand j h = framed_reference q (get_or order j 0) (s.framed j h)

  pub sorted_ascends : Ascending q order 4
  sorted_ascends = known_ascend q order 4 (reference_in q order) stand s.rises

  pub sorted_at : (r : BlockReference) (p : Result ℕ ℕ) (j : ℕ) → p ≡ Ok j → FoundAmong (length order) (reference_from q order 4) r p → (j < length order) ×
      (reference_in q order j ≡ r)
  sorted_at = known_at q order 4 (reference_in q order) stand

  pub sorted_between : (r : BlockReference) (p : Result ℕ ℕ) (j : ℕ) → p ≡ Err j → FoundAmong (length order) (reference_from q order 4) r p → Between
      (length order) (reference_in q order) r j
  sorted_between = known_between q order 4 (reference_in q order) stand
