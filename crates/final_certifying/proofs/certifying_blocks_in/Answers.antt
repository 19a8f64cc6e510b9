use Rattle.types.specs.Values.{as_locator}
use Rattle.final_voters.proofs.Halves.{both_nothing}
use Rattle.final_certifying.proofs.certifying_blocks_in.Goals as goal

pub find_certifying_blocks-requires : goal.find_certifying_blocks-requires
find_certifying_blocks-requires c = let a = c.args in
    let p = c.requires in
    (p.0, (p.1.1, both_nothing a.store.now a.order.now (as_locator a.locator) p.1.0))

pub returns : goal.returns
returns c = let v = c.find_certifying_blocks.ensures in record
    { blocks_value = v.blocks_value; authors_value = v.authors_value; positions_after = v.positions_after }
