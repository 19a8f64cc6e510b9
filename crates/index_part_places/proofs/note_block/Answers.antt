use mathlib.Core.Path.{sym, ap, ◌∙◌}
use native.Mathlib.Omega.{arith}
use lib.ListN.{length}
use lib.Seq.{length-take-le}
use Rattle.index_part_places.proofs.note_block.Goals as goal

pub slice_bounds-place_at-end-2 : goal.slice_bounds-place_at-end-2
slice_bounds-place_at-end-2 c = sym (length-take-le c.sorted_positions-count.result
    c.sorted_positions-count.new.order
    (omega (
      arith,
      c.sorted_positions-count.ensures.0,
      c.sorted_positions-count.auto.order,
      c.requires.room.0,
    )))

pub place_at-place-requires : goal.place_at-place-requires
place_at-place-requires c = rw c.sorted_positions-count.ensures.1.1
    c.requires.store.1

pub overflow_sub-count : goal.overflow_sub-count
overflow_sub-count c =
    let q = c.sorted_positions-count in
    let long = length-take-le q.result q.new.order (omega
    (arith, q.ensures.0, q.auto.order, c.requires.room.0)) in
    omega (arith, c.place_at-place.ensures.0, long)

pub put_in-requires : goal.put_in-requires
put_in-requires c =
    let q = c.sorted_positions-count in
    let long = length-take-le q.result q.new.order (omega
    (arith, q.ensures.0, q.auto.order, c.requires.room.0)) in (
      omega (arith, c.place_at-place.ensures.0, long),
      omega (
        arith,
        q.ensures.0,
        c.place_at-place.ensures.0,
        long,
        c.requires.room.1,
      ),
    )

pub returns : goal.returns
returns c =
    let q = c.sorted_positions-count in
    let e = q.ensures.1.1 in
    let f = c.place_at-place.ensures in
    let long = length-take-le q.result q.new.order (omega (
      arith,
      q.ensures.0,
      q.auto.order,
      c.requires.room.0,
    )) in
    let many = sym long ∙ ap length e in
    record {
      sorted = rw q.ensures.1.0 at e;
      place = c.place_at-place.result;
      within = rw e at f.0;
      found = rw e at f.1;
      put = rw many at c.put_in.ensures;
    }
