use Prim.Native.Nat.{ℕ, ◌*◌}
use mathlib.Core.Path.{ap}
use native.Mathlib.Omega.{arith}
use Rattle.store_spec.specs.Entry.{block_at}
use Rattle.store_spec.proofs.Loops.{entry_room, record-part}
use Rattle.types.specs.Values.{as_maybe}
use Rattle.list_lanes.specs.Lanes.{lane_kind}
use Rattle.list_window.proofs.Entering.{recorded, next_more}
use Rattle.list_window.proofs.next_block.Goals as goal

pub overflow_add-start : goal.overflow_add-start
overflow_add-start c = let o = c in
    omega (arith, (entry_room o.args.store.now o.args.at o.requires.entry).inside, o.well_formed)

pub slice_bounds-statement_count-end : goal.slice_bounds-statement_count-end
slice_bounds-statement_count-end c = let o = c in
    omega (arith, (entry_room o.args.store.now o.args.at o.requires.entry).inside, c.record_end-end.ensures)

pub statement_count-count-requires : goal.statement_count-count-requires
statement_count-count-requires c = let o = c in
    (recorded o.args.store.now o.args.at c.record_end-end.result o.requires.entry o.requires.votes c.record_end-end.ensures).formed

pub overflow_mul-count : goal.overflow_mul-count
unfolding block_at
overflow_mul-count c = let o = c in
    let e = rw (record-part o.args.store.now o.args.at c.record_end-end.result
    c.record_end-end.ensures) at c.statement_count-count.ensures in
    omega (arith, e, o.requires.few)

pub make_room-room-requires : goal.make_room-room-requires
unfolding block_at
make_room-room-requires c = let o = c in
    let e = rw (record-part o.args.store.now o.args.at c.record_end-end.result
    c.record_end-end.ensures) at c.statement_count-count.ensures in
    record { can = o.requires.can; few = o.requires.few_at; wide = omega (arith, e, o.requires.few, o.requires.wide, o.requires.can.room) }

pub slice_bounds-block_edges-end : goal.slice_bounds-block_edges-end
slice_bounds-block_edges-end c = let o = c in
    omega (
      arith,
      (entry_room o.args.store.now o.args.at o.requires.entry).inside,
      c.record_end-end.ensures,
    )

pub block_edges-k-requires : goal.block_edges-k-requires
block_edges-k-requires c = let o = c in
    let a = o.args in
    let room = c.make_room-room in
    let e = c.statement_count-count.ensures in (
      recorded a.store.now a.at c.record_end-end.result
          o.requires.entry o.requires.votes c.record_end-end.ensures,
      (omega (arith, room.ensures.fit, e), (omega (arith, room.ensures.fit, e, o.requires.spared, room.ensures.long, room.auto.spare), o.requires.small)),
    )

pub returns : goal.returns
unfolding block_at
returns c = let o = c in
    let a = o.args in
    let part = record-part a.store.now a.at c.record_end-end.result c.record_end-end.ensures in
    let e = rw part at c.statement_count-count.ensures in
    let t = rw part at c.block_edges-k.ensures in
    next_more (lane_kind a.lane) a.store.now (block_at a.store.now a.at) (as_maybe a.last) a.edges.now _ _ a.window
    c.make_room-room.result a.lane _ _
    c.make_room-room.ensures (ap (λ (n : ℕ). 2 * n) e) t
