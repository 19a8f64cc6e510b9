-- How a locator stands to a run, by the order of their blocks and the offsets. Assumes nothing.
use mathlib.Core.Path.{◌≡◌, sym}
use Prim.Native.Nat.{◌≤◌, ◌<◌}
use native.Mathlib.Omega.{arith}
use Rattle.record_spec.specs.Reference.{TransactionLocator}
use Rattle.record_spec.proofs.References.{reference_same}
use Rattle.types.specs.Values.{reference_order}
use Rattle.std.specs.declared.cmp.Ordering.TheVariants.{Less, Equal, Greater}
use Rattle.types.proofs.Words.{compared_equal, compared_less, compared_greater}
use Rattle.index_spec.specs.Runs.{Run}
use Rattle.index_spec.specs.Walk.{by_block, by_offset}
use Rattle.index_spec.proofs.Chain.{is_covered}
use Rattle.sorted_step.specs.Step.{Beside}
use Rattle.sorted_step.specs.declared.Side.TheVariants.{Before, Inside, Past}

module _ (x : Run) (l : TransactionLocator) where
  pub side_less : reference_order x.reference l.block ≡ Less → Beside x l Past
  unfolding Beside
  side_less h = by_block (compared_less x.reference l.block h).1

  pub side_greater : reference_order x.reference l.block ≡ Greater → Beside x l Before
  unfolding Beside
  side_greater h = by_block (compared_greater x.reference l.block h).1

  module _ (h : reference_order x.reference l.block ≡ Equal) where
    same_block : x.reference ≡ l.block
    same_block = reference_same x.reference l.block (compared_equal x.reference l.block h)

    pub side_before : l.offset < x.start → Beside x l Before
    unfolding Beside
    side_before k = by_offset (sym same_block) (omega arith)

    pub side_inside : x.start ≤ l.offset → l.offset < x.end → Beside x l Inside
    unfolding Beside
    side_inside k m = is_covered x l (record { of = same_block; from = k; below = m })

    pub side_past : x.end ≤ l.offset → Beside x l Past
    unfolding Beside
    side_past k = by_offset same_block k
