use Rattle.store_entries.proofs.Placed.{order_ascends, order_at, order_misses}
use Rattle.store_spec.specs.Store.{records_of}
use Rattle.store_spec.proofs.Search.{reference_in}
use Rattle.types.specs.Values.{as_reference}
use Rattle.final_block_votes.specs.Walk.{SortedStore, block_at_place}
use Rattle.final_block_votes.proofs.Sorting.{stored_somewhere}
use Rattle.final_block_votes.proofs.place_of.Goals as goal

pub find_place-found-requires : goal.find_place-found-requires
unfolding SortedStore
find_place-found-requires c = let o = c.requires.0.1 in order_ascends _ o.laid _ o.places

pub returns-in-Ok : goal.returns-in-Ok
unfolding SortedStore block_at_place reference_in
returns-in-Ok c =
    let o = c.requires.0.1 in
    order_at _ o.laid _ o.places _ _ _ c.in-Ok.is c.find_place-found.ensures

pub returns-in-Err : goal.returns-in-Err
unfolding SortedStore
returns-in-Err c =
    let start = c in
    let o = start.requires.0.1 in
    absurd
    (stored_somewhere (records_of start.args.store.now) (as_reference start.args.block) start.requires.1
    (order_misses _ o.laid _ o.places _ _ _ c.in-Err.is c.find_place-found.ensures))
