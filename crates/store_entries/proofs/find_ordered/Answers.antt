use native.Mathlib.Omega.{arith}
use Rattle.store_spec.proofs.Search.{found_there}
use Rattle.store_entries.proofs.Placed.{order_ascends, order_at, order_misses}
use Rattle.store_entries.proofs.find_ordered.Goals as goal

pub find_place-requires : goal.find_place-requires
find_place-requires c = let start = c in order_ascends _ start.requires.0 _ start.requires.1

pub returns-in_default : goal.returns-in_default
returns-in_default c =
    let start = c in
    order_misses _ start.requires.0 _ start.requires.1 _ _ _ c.in_default.is c.find_place.ensures

pub offset_bounds-order-k : goal.offset_bounds-order-k
offset_bounds-order-k c =
    let start = c in
    omega (arith, (order_at _ start.requires.0 _ start.requires.1 _ _ _ c.in-Ok.is c.find_place.ensures).0)

pub bounds-order-k : goal.bounds-order-k
bounds-order-k c =
    let start = c in
    (order_at _ start.requires.0 _ start.requires.1 _ _ _ c.in-Ok.is c.find_place.ensures).0

pub returns : goal.returns
returns c =
    let start = c in
    let there = order_at _ start.requires.0 _ start.requires.1 _ _ _ c.in-Ok.is c.find_place.ensures in
    found_there _ start.requires.0 _ start.requires.1 _ _ there.0 there.1
