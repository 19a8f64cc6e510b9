-- The blocks of a store fit their record. Assumes nothing.
use mathlib.Core.Path.{subst}
use Rattle.base.specs.Lists.{◌∈◌}
use Rattle.base.specs.Le.{Bytes}
use Rattle.base.proofs.Le.{AllBytes}
use Rattle.base.proofs.Lists.{every_in}
use Rattle.base.proofs.Members.{map_in}
use Rattle.record_spec.specs.Block.{Block}
use Rattle.record_spec.proofs.Records.{BlockFits, block_of_fits}
use Rattle.store_spec.specs.Store.{records_of}
use Rattle.store_spec.proofs.Store.{right_block, records_of_right, records_of_bytes}
use Rattle.final_spec.specs.Finality.{blocks_of}

pub block_fits : (s : Bytes) → AllBytes s → (b : Block) → b ∈ blocks_of s → BlockFits b
unfolding blocks_of
block_fits s bytes b m =
    let r = map_in (λ x. x.block) (records_of s) m in
    subst BlockFits r.2
    (block_of_fits r.0.bytes r.0.block (every_in (records_of s) r.0 (records_of_bytes s bytes) r.1)
    (right_block r.0 (every_in (records_of s) r.0 (records_of_right s) r.1)))
