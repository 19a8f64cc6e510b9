-- What an event of an accepted record says, as relations. Assumes nothing: these are definitions.
use Rattle.std.specs.Prelude.{ℕ, ◌≤◌, ◌<◌, ◌≡◌, List, [], ◌∷◌}
use Rattle.std.proofs.Math.Option.{some}
use Rattle.std.proofs.Math.ListN.{get_elem?}
use Rattle.base.specs.Lists.{◌∈◌}
use Rattle.record_spec.specs.Reference.{BlockReference, TransactionLocator, TransactionLocatorRange, locator}
use Rattle.record_spec.specs.Block.{Block, Statement, voted_range}
use Rattle.store_spec.specs.Shares.{StoredShare}
use Rattle.feed_spec.specs.ProcessBlock.{Event}
use Rattle.mission_theorems.specs.Feeds.{Accepted, stored_blocks}

-- 01: "kind (1 processed, 2 late, 3 unknown)", "an offset with no item is late if it is a stored share, else unknown": over the stored blocks
pub data Says (bs : List Block) (l : TransactionLocator) : ℕ → Type 0 where
  processed : StoredShare bs l → Says bs l 1
  late : StoredShare bs l → Says bs l 2
  unknown : (StoredShare bs l → ⊥) → Says bs l 3

-- 01: "An event announces its offset under its statement's reference": the statement votes over a range of which the offset is one
pub record Means (bs : List Block) (b : Block) (v : Event) : Type 0 where
  pub statement : Statement
  pub stands : get_elem? b.statements v.statement ≡ some statement
  pub range : TransactionLocatorRange
  pub votes : voted_range statement ≡ some range
  pub from : range.start ≤ v.offset
  pub below : v.offset < range.end
  pub says : Says bs (locator range.block v.offset) v.kind

-- of every accepted record, the last first: 01: "the block being fed counts as stored"
unfoldable pub EventsMean : List Accepted → Type 0
EventsMean [] = Unit {0}
EventsMean (a ∷ earlier) = ((v : Event) → v ∈ a.events → Means (stored_blocks (a ∷ earlier)) a.block v) × EventsMean earlier
