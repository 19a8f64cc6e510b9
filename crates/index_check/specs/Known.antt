-- Machinery for the contracts of inner functions: where the parts of stored blocks stand in the index. Assumes nothing: these are definitions.
use Rattle.std.specs.Prelude.{ℕ, ◌+◌, ◌*◌, ◌≤◌, ◌<◌, ◌≡◌, true, List, map, length, get_or}
use Rattle.base.specs.Lists.{◌∈◌}
use Rattle.base.specs.Le.{Bytes}
use Rattle.record_spec.specs.Reference.{BlockReference, TransactionLocator}
use Rattle.record_spec.specs.Block.{Block}
use Rattle.store_spec.specs.Store.{records_of}
use Rattle.store_spec.specs.Accept.{is_stored}
use Rattle.final_spec.specs.Voters.{unions}
use Rattle.final_block_votes.specs.Walk.{block_at_place}
use Rattle.index_spec.specs.Runs.{Run, voters_in}
use Rattle.index_spec.specs.Part.{part_in}
use Rattle.index_spec.specs.Walk.{part_at}
use Rattle.index_pieces.specs.Sources.{Ready, named_by}

-- these runs stand at a position
pub record Stands (ix : List ℕ) (p : ℕ) (xs : List Run) : Type 0 where
  pub inside : p + 1 + 10 * get_or ix p 0 ≤ length ix
  pub are : part_at ix p ≡ xs

-- for each place in ascending reference order whose block is among bs, where its part stands
pub record Known (s : Bytes) (order ix starts : List ℕ) (bs : List Block) : Type 0 where
  pub long : length order ≤ length starts
  pub parts : (k : ℕ) → k < length order → (d : Block) → d ∈ bs → d.reference ≡ (block_at_place s order k).reference → Stands ix (get_or starts k 0)
      (part_in bs d.reference)

-- the includes of a block are among bs, and stored
pub record Rooted (s : Bytes) (bs : List Block) (b : Block) : Type 0 where
  pub found : (i : BlockReference) → i ∈ b.includes → (d : Block) × (d ∈ bs) × (d.reference ≡ i)
  pub stored : (i : BlockReference) → i ∈ b.includes → is_stored (records_of s) i ≡ true

-- the parts of a block's includes as sources
pub record Opened (bs : List Block) (b : Block) (ix cs : List ℕ) (n : ℕ) : Type 0 where
  pub ready : Ready ix cs n
  pub names : (l : TransactionLocator) → named_by ix cs n l ≡ unions (map (λ i. voters_in (part_in bs i) l) b.includes)
