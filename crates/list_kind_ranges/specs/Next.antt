-- Machinery for the contracts of inner functions: the range that the statements at a place give first. Assumes nothing: these are definitions.
use Rattle.std.specs.Prelude.{ℕ, ◌+◌, ◌≤◌, ◌≡◌, List, ◌++◌, length}
use Rattle.base.specs.Le.{Bytes}
use Rattle.base.proofs.Lists.{Every}
use Rattle.record_spec.specs.Reference.{BlockReference, TransactionLocatorRange}
use Rattle.record_spec.specs.Record.{block_in}
use Rattle.record_reference_bytes.specs.Step.{reference_at}
use Rattle.list_block_spans.specs.Answers.{voted_by, OnwardIn}
use Rattle.list_kind_ranges.specs.Kinds.{kind_ranges_at}
use Rattle.list_kind_ranges.specs.declared.RangeKind.{RangeKind}
use Rattle.list_kind_ranges.specs.declared.NextRange as next

-- a reference stands at a position
unfoldable pub StandsAt : Bytes → ℕ → BlockReference → Type 0
StandsAt s at r = (at + 48 ≤ length s) × (reference_at s at ≡ r)

-- those of some ranges do
unfoldable pub AllStand : Bytes → ℕ → List TransactionLocatorRange → Type 0
AllStand s at qs = Every (λ q. StandsAt s at q.block) qs

-- the range of a kind that the statements from index i on give first, or none; where its reference stands in the record; and the place after them
pub record NextIn (kind : RangeKind) (r : Bytes) (i : ℕ) (n : next.NextRange) : Type 0 where
  pub are : kind_ranges_at kind (block_in r) i ≡ voted_by n.vote ++ kind_ranges_at kind (block_in r) n.next.index
  pub onward : OnwardIn (block_in r) r i n.next
  pub inside : n.at ≤ length r
  pub stands : AllStand r n.at (voted_by n.vote)
