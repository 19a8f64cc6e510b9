use mathlib.Core.Path.{refl, sym}
use native.Mathlib.Omega.{arith}
use lib.Seq.{length-take-le}
use Rattle.final_spec.specs.Finality.{blocks_of}
use Rattle.index_spec.specs.Index.{used_part, appended}
use Rattle.index_lent.proofs.Used.{agrees_inside, agrees_some}
use Rattle.index_growth.specs.Growing.{Grew}
use Rattle.index_growth.proofs.Newest.{new_ready, new_runs, room_short, counted_short, counted_runs, counted_room, counted_enough}
use Rattle.index_growth.proofs.grow.Goals as goal

pub bounds-index-0 : goal.bounds-index-0
bounds-index-0 c = let a = c.args in
    let h = c.requires.agrees in
    omega (arith, agrees_inside (blocks_of a.store.now) a.index.now h, agrees_some (blocks_of a.store.now) a.index.now h)

pub overflow_sub-room : goal.overflow_sub-room
overflow_sub-room c = let a = c.args in omega (
  arith,
  agrees_inside (blocks_of a.store.now) a.index.now c.requires.agrees,
)

pub returns-then-room-eq0 : goal.returns-then-room-eq0
unfolding Grew
returns-then-room-eq0 c = let a = c.args in
    let h = c.requires.agrees in (
      room_short a.store.now a.rec.now a.index.now h
          (omega (arith, c.if-room-eq0.true, agrees_inside (blocks_of a.store.now) a.index.now h)),
      refl,
      refl,
    )

pub slice_bounds-open_sources-end-2 : goal.slice_bounds-open_sources-end-2
slice_bounds-open_sources-end-2 c = let a = c.args in
    sym (length-take-le _ a.index.now (agrees_inside (blocks_of a.store.now) a.index.now c.requires.agrees))

pub open_sources-n-requires : goal.open_sources-n-requires
unfolding used_part
open_sources-n-requires c = let p = c.requires in record {
  store = p.sorted;
  «record» = p.voting.formed;
  known = (
    blocks_of c.args.store.now,
    (p.known, p.rooted),
  );
  room = omega arith;
}

pub slice_bounds-run_count-end-2 : goal.slice_bounds-run_count-end-2
slice_bounds-run_count-end-2 c = let a = c.args in sym (length-take-le _ a.index.now (agrees_inside (blocks_of a.store.now) a.index.now c.requires.agrees))

pub run_count-counted-requires : goal.run_count-counted-requires
unfolding used_part
run_count-counted-requires c = let a = c.args in
    let p = c.requires in
    let o = c.own_runs in (
      (c.open_sources-n.ensures (blocks_of a.store.now) p.known p.rooted).ready,
      new_ready a.rec.now o.new.words o.result o.ensures.own_runs,
    )

pub returns-in_default : goal.returns-in_default
unfolding Grew used_part
returns-in_default c = let a = c.args in
    let p = c.requires in
    let o = c.own_runs in (
      counted_short a.store.now a.rec.now a.index.now p.agrees (omega (
        arith,
        c.if-room-eq0.false,
      )) c.run_count-counted.result
          (c.run_count-counted.ensures _
          (new_runs a.store.now a.rec.now _ _ _ o.new.words o.result o.ensures.own_runs
          (c.open_sources-n.ensures (blocks_of a.store.now) p.known
          p.rooted))) c.in_default.is,
      refl,
      refl,
    )

pub append_part-requires : goal.append_part-requires
unfolding used_part
append_part-requires c = let a = c.args in
    let p = c.requires in
    let o = c.own_runs in
    let w = c.open_sources-n.ensures (blocks_of a.store.now) p.known p.rooted in record {
      sources = (w.ready, new_ready a.rec.now o.new.words o.result o.ensures.own_runs);
      room = (
        agrees_some (blocks_of a.store.now) a.index.now p.agrees,
        counted_room a.store.now a.rec.now a.index.now p.agrees (omega (
          arith,
          c.if-room-eq0.false,
        )) c.run_count-counted.result
            (c.run_count-counted.ensures _ (new_runs a.store.now a.rec.now _ _ _
            o.new.words o.result o.ensures.own_runs w)) _ c.in-Some.is,
      );
    }

pub returns : goal.returns
unfolding Grew used_part appended
returns c = let a = c.args in
    let p = c.requires in
    let o = c.own_runs in
    let runs = new_runs a.store.now a.rec.now _ _ _ o.new.words o.result o.ensures.own_runs
    (c.open_sources-n.ensures (blocks_of a.store.now) p.known p.rooted) in
    let counted = c.run_count-counted.ensures _
    runs in
    let is = c.in-Some.is in (
      counted_enough a.store.now a.rec.now a.index.now p.agrees (omega (
        arith,
        c.if-room-eq0.false,
      )) c.run_count-counted.result counted _ is,
      c.append_part.ensures _ runs (counted_runs a.store.now a.rec.now a.index.now p.agrees (omega (
        arith,
        c.if-room-eq0.false,
      )) c.run_count-counted.result counted _ is),
    )
