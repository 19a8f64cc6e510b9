use Rattle.list_row_sort.specs.Rows.{row_at, Inside}
use Rattle.list_range_rows.specs.Ranges.{new_row}
use Rattle.list_edge_rows.specs.Edges.{start_edge, end_edge}
use Prim.Native.Nat.{ℕ}
use mathlib.Core.Path.{◌≡◌, subst}
use native.Mathlib.Omega.{arith}
use Rattle.types.specs.Values.{as_maybe}
use Rattle.list_block_edges.specs.Taken.{EdgesTaken}
use Rattle.list_block_edges.proofs.Taking.{taken_start, taken_more}
use Rattle.list_block_edges.proofs.take_edges.Goals as goal

pub loop-i-init : goal.loop-i-init
loop-i-init c = let a = c.args in
    (omega arith, taken_start a.store.now (as_maybe a.last) (as_maybe a.bound) a.rows.now a.edges.now a.place a.n)

pub put_edge-k-requires : goal.put_edge-k-requires
unfolding Inside row_at
put_edge-k-requires c = let p = c.requires in
    let l = c.loop-i in
    let h = c.loop-i-test.true in
    (p.inside l.i h, omega (arith, p.fit.room, l.invariant.1.few, l.invariant.1.long))

pub put_edge-k-requires-in-loop-i : goal.put_edge-k-requires-in-loop-i
unfolding Inside row_at
put_edge-k-requires-in-loop-i c = let p = c.requires in
    let l = c.loop-i in
    let h = c.loop-i-test.true in
    let w = c.put_edge-k.ensures in
    (p.inside l.i h, omega (arith, p.fit.room, l.invariant.1.few, l.invariant.1.long, w.few, w.long))

pub loop-i-preserved : goal.loop-i-preserved
unfolding start_edge end_edge row_at new_row
loop-i-preserved c = let a = c.args
    in
    let l = c.loop-i in
    let h = c.loop-i-test.true in (
      omega arith,
      taken_more a.store.now (as_maybe a.last) (as_maybe a.bound) a.rows.now a.edges.now a.place a.n l.i l.edges _ _
          l.k _ _ l.invariant.1 c.put_edge-k.ensures c.put_edge-k-in-loop-i.ensures,
    )

pub shape_of-edges : goal.shape_of-edges
shape_of-edges c = c.loop-i.invariant.1.long

pub returns : goal.returns
returns c = let a = c.args in
    let l = c.loop-i in
    let e : l.i ≡ a.m = omega (arith, c.loop-i-test.false) in
    subst (λ (i : ℕ). EdgesTaken a.store.now (as_maybe a.last) (as_maybe a.bound) a.rows.now a.edges.now l.edges i a.place a.n
    l.k) e l.invariant.1
