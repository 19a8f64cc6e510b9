-- A place past another, by the order of their blocks. Assumes nothing.
use mathlib.Core.Path.{◌≡◌}
use Prim.Native.Nat.{ℕ, ◌≤◌}
use Rattle.record_spec.specs.Reference.{BlockReference}
use Rattle.record_spec.proofs.References.{reference_same}
use Rattle.types.specs.Values.{reference_order}
use Rattle.std.specs.declared.cmp.Ordering.TheVariants.{Less, Equal}
use Rattle.types.proofs.Words.{compared_equal, compared_less}
use Rattle.index_spec.specs.Walk.{Past, by_block, by_offset}

module _ (q r : BlockReference) (e o : ℕ) where
  pub order_less : reference_order q r ≡ Less → Past q e r o
  order_less h = by_block (compared_less q r h).1

  pub order_equal : reference_order q r ≡ Equal → e ≤ o → Past q e r o
  order_equal h m = by_offset (reference_same q r (compared_equal q r h)) m
