use Rattle.store_lookup.proofs.Ordered.{found_not, goes_within, goes_between}
use Rattle.store_entries.proofs.Placed.{order_ascends}
use Rattle.store_lookup.proofs.chain_place.Goals as goal

pub find_place-requires : goal.find_place-requires
find_place-requires c = let start = c in order_ascends _ start.requires.0 _ start.requires.1.0

pub returns-in_default : goal.returns-in_default
returns-in_default c =
    let start = c in
    absurd (found_not _ start.requires.0 _ start.requires.1.0 _ _ _ c.in_default.is c.find_place.ensures start.requires.1.1)

pub position_before-below-requires : goal.position_before-below-requires
position_before-below-requires c =
    let start = c in
    goes_within _ start.requires.0 _ start.requires.1.0 _ _ _ c.in-Err.is c.find_place.ensures

pub returns : goal.returns
returns c =
    let start = c in
    rw (c.position_before-below.ensures, c.position_at-above.ensures)
    (goes_between _ start.requires.0 _ start.requires.1.0 _ _ _ c.in-Err.is
    c.find_place.ensures)
