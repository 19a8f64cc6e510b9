use borrow.Rule.Slice.PartMut.{same_len_mid}
use Rattle.types.specs.Values.{as_maybe}
use Prim.Native.Nat.{◌-◌, ◌*◌}
use native.Mathlib.Omega.{arith}
use lib.ListN.{length, drop, length-drop}
use lib.Seq.{take_all}
use Rattle.record_spec.specs.Record.{block_in}
use Rattle.list_own_ranges.specs.Own.{Roomy}
use Rattle.list_block_edges.proofs.Growing.{rows_before, rows_takeable, block_taken}
use Rattle.list_block_edges.proofs.block_edges.Goals as goal

pub own_ranges-m-requires : goal.own_ranges-m-requires
unfolding Roomy
own_ranges-m-requires c = let a = c.args in
    let p = c.requires in (
      p.0,
      (
        p.1.1.0,
        rw (take_all (length a.edges.now - 3 * a.window.n) (drop (3 * a.window.n) a.edges.now)
            (omega (arith, length-drop (3 * a.window.n) a.edges.now))) (omega (arith, p.1.0, length-drop (3 * a.window.n) a.edges.now)),
      ),
    )

pub take_edges-requires : goal.take_edges-requires
take_edges-requires c = let a = c.args in
    let p = c.requires in
    let o = c.own_ranges-m in
    rows_takeable c.lane_kind-kind.result a.store.now (block_in a.rec.now)
    (as_maybe a.last) (as_maybe a.window.bound) a.spare.now _ _ o.result a.lane a.window.n o.ensures p.1.1.0
    (omega (
      arith,
      p.1.0,
      same_len_mid (3 * a.window.n) (length a.edges.now - 3 * a.window.n) a.edges.now o.new.spare
          o.auto.spare,
    )) p.1.1.1

pub returns : goal.returns
returns c = let a = c.args in
    let p = c.requires in
    let o = c.own_ranges-m in
    rw (← c.lane_kind-kind.ensures)
    (block_taken c.lane_kind-kind.result a.store.now
    (block_in a.rec.now) (as_maybe a.last) (as_maybe a.window.bound) a.lane a.window.n a.spare.now _ a.edges.now _ _ o.result _
    o.ensures c.take_edges.ensures
    (same_len_mid (3 * a.window.n) (length a.edges.now - 3 * a.window.n) a.edges.now o.new.spare
    o.auto.spare) (rows_before a.edges.now o.new.spare a.window.n
    (length a.edges.now - 3 * a.window.n) (omega (arith, p.1.0))))
