-- The reference of an entry, and the search by reference among the entries of a store. Assumes nothing.
use mathlib.Core.Path.{◌≡◌}
use mathlib.Core.List.{List}
use mathlib.Core.Bool.{true}
use Prim.Native.Nat.{ℕ, ◌+◌, ◌≤◌, ◌<◌}
use native.Mathlib.Omega.{arith}
use lib.ListN.{length, get_or}
use Rattle.base.specs.Le.{Bytes, le_at}
use Rattle.record_spec.specs.Reference.{BlockReference}
use Rattle.record_reference_bytes.specs.Step.{reference_at}
use Rattle.record_reader.proofs.Shape.{reference_within}
use Rattle.record_reference_search.specs.Places.{reference_from, Ascending, Between, FoundAmong}
use Rattle.record_reference_search.proofs.Known.{known_ascend, known_at, known_between}
use Rattle.store_spec.specs.Layout.{entries, position_of, lookup}
use Rattle.store_spec.specs.Store.{records_of}
use Rattle.store_spec.specs.Entry.{record_at, block_at, sorted_positions, laid_out, is_entry}
use Rattle.store_spec.proofs.Loops.{entry_room}
use Rattle.store_spec.proofs.Search.{reference_in, order_entry, order_rises, found_nowhere}
use Rattle.std.specs.Prelude.{Err, Ok, Result}

-- an entry's record begins with the reference of its block
pub entry_reference : (s : Bytes) (p : ℕ) → is_entry s p ≡ true → (p + 8 + 48 ≤ length s) × (reference_at s (p + 8) ≡ (block_at s p).reference)
unfolding block_at record_at
entry_reference s p h = reference_within s (p + 8) (le_at 4 s (p + 4)) (entry_room s p h).formed

module _ (s : Bytes) (h : laid_out s ≡ true) (order : List ℕ) (q : order ≡ sorted_positions (records_of s)) where
  stand : (j : ℕ) → j < length order → (get_or order j 0 + 8 + 48 ≤ length s) × (reference_at s (get_or order j 0 + 8) ≡ reference_in s order j)
  unfolding reference_in
  stand j l = entry_reference s (get_or order j 0) (order_entry s h order q j l)

  pub order_ascends : Ascending s order 8
  order_ascends = known_ascend s order 8 (reference_in s order) stand (order_rises s h order q)

  pub order_at : (r : BlockReference) (p : Result ℕ ℕ) (j : ℕ) → p ≡ Ok j → FoundAmong (length order) (reference_from s order 8) r p → (j < length order) ×
      (reference_in s order j ≡ r)
  order_at = known_at s order 8 (reference_in s order) stand

  pub order_misses : (r : BlockReference) (p : Result ℕ ℕ) (j : ℕ) → p ≡ Err j → FoundAmong (length order) (reference_from s order 8) r p → 0 ≡ position_of
      (lookup (entries (records_of s)) r)
  order_misses r p j e f =
      let b : Between (length order) (reference_in s order) r j = known_between s order 8 (reference_in s order) stand r p j e f in
      found_nowhere s h order q r j j (omega arith) (record { order = omega arith; inside = b.most; below = b.below; above = b.above })
