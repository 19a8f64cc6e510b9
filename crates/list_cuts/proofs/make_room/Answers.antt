use Prim.Native.Nat.{◌/◌}
use native.Mathlib.Omega.{arith}
use Rattle.list_row_sort.specs.Rows.{Inside}
use Rattle.types.specs.Values.{as_maybe}
use Rattle.list_cuts.specs.Room.{Shorter}
use Rattle.list_cuts.proofs.Room.{sorted_cuttable, room_cut, cut_fits}
use borrow.Author.Rules.{rules}
use Rattle.list_cuts.proofs.make_room.Goals as goal

pub returns-then-more-edges : goal.returns-then-more-edges
unfolding as_maybe Shorter
returns-then-more-edges c = search rules

pub cut-m-requires : goal.cut-m-requires
cut-m-requires c = let a = c.args in
    sorted_cuttable a.store.now a.edges.now a.window a.more _ _
    c.requires
    c.sort_rows.ensures (omega arith) _ (omega arith)

pub row_locator-locator-requires : goal.row_locator-locator-requires
unfolding Inside
row_locator-locator-requires c = let a = c.args in
    let h = sorted_cuttable a.store.now a.edges.now a.window a.more _ _
    c.requires
    c.sort_rows.ensures (omega arith) (a.window.n / 2) (omega arith) in
    (omega (arith, h.room, h.below), h.inside _ h.below)

pub returns-then-more-edges-2 : goal.returns-then-more-edges-2
returns-then-more-edges-2 c = let a = c.args in
    room_cut a.store.now a.edges.now a.window a.more _ _
    c.requires
    c.sort_rows.ensures _ c.cut-m.result
    c.cut-m.ensures c.row_locator-locator.result c.row_locator-locator.ensures
    (omega (
      arith,
      c.if-more-edges-2.true,
      c.cut-m.ensures.few,
      c.requires.can.room,
      c.sort_rows.ensures.long,
    ))

pub cut-k-requires : goal.cut-k-requires
cut-k-requires c = let a = c.args in
    sorted_cuttable a.store.now a.edges.now a.window a.more _ _
    c.requires
    c.sort_rows.ensures (omega arith) _ (omega arith)

pub row_locator-locator-requires-2 : goal.row_locator-locator-requires-2
unfolding Inside
row_locator-locator-requires-2 c = let a = c.args in
    let h = sorted_cuttable a.store.now a.edges.now a.window a.more _ _
    c.requires
    c.sort_rows.ensures (omega arith) (a.window.n / 16)
    (omega arith) in
    (omega (arith, h.room, h.below), h.inside _ h.below)

pub returns : goal.returns
returns c = let a = c.args in
    room_cut a.store.now a.edges.now a.window a.more _ _
    c.requires c.sort_rows.ensures _
    c.cut-k.result c.cut-k.ensures c.row_locator-locator-2.result c.row_locator-locator-2.ensures
    (cut_fits a.store.now a.edges.now a.window a.more _ _
    c.requires c.sort_rows.ensures _
    c.cut-k.result c.cut-k.ensures (omega arith))
