use Prim.Native.Nat.{ℕ, ◌-◌}
use mathlib.Core.Path.{◌≡◌, subst}
use native.Mathlib.Omega.{arith}
use Rattle.list_edge_rows.specs.Edges.{Edged}
use Rattle.list_edge_rows.proofs.Tables.{edged_start, edged_more}
use Rattle.list_edge_rows.proofs.edge_rows.Goals as goal

pub loop-i-init : goal.loop-i-init
loop-i-init c = let a = c.args in
    (omega arith, edged_start a.rows.now a.edges.now a.place a.n)

pub put_edges-requires : goal.put_edges-requires
put_edges-requires c = let p = c.requires in
    let g = c.loop-i in
    let h = c.loop-i-test.true in
    (omega (arith, p.rows), (omega (arith, p.room, g.invariant.1.many, g.invariant.1.long), p.small))

pub overflow_add-k : goal.overflow_add-k
overflow_add-k c = let p = c.requires in
    let g = c.loop-i in
    omega (
      arith,
      p.room,
      g.invariant.1.many,
      c.loop-i-test.true,
      c.well_formed,
    )

pub loop-i-smaller : goal.loop-i-smaller
loop-i-smaller c = omega (arith, c.loop-i-test.true)

pub loop-i-preserved : goal.loop-i-preserved
loop-i-preserved c = let a = c.args in
    let p = c.requires in
    let g = c.loop-i in
    let h = c.loop-i-test.true in
    rw c.put_edges.ensures (
      omega arith,
      edged_more a.rows.now a.edges.now a.place a.n g.edges g.i g.k g.invariant.1
          (omega (arith, p.room)),
    )

pub shape_of-edges : goal.shape_of-edges
shape_of-edges c = c.loop-i.invariant.1.long

pub returns : goal.returns
returns c = let a = c.args in
    let g = c.loop-i in
    let e : g.i ≡ a.m = omega (arith, c.loop-i-test.false) in
    subst (λ (i : ℕ). Edged a.rows.now a.edges.now g.edges i a.place a.n g.k) e g.invariant.1
