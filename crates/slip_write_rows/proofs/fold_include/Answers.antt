use Prim.Native.Nat.{ℕ, ◌+◌, ◌*◌}
use mathlib.Core.Path.{◌≡◌, sym, subst, ◌∙◌}
use native.Mathlib.Omega.{arith}
use Rattle.slip_write_rows.specs.Rows.{Folded}
use Rattle.slip_write_rows.proofs.Rows.{folded_start, folded_no, folded_yes}
use Rattle.slip_write_rows.proofs.fold_include.Goals as goal

pub loop-a-init : goal.loop-a-init
loop-a-init c = let a = c.args in
    (omega arith, folded_start a.near.now a.steps.now a.k a.i a.j)

pub loop-a-preserved-then-not-is_nearer : goal.loop-a-preserved-then-not-is_nearer
loop-a-preserved-then-not-is_nearer c = let a = c.args in
    let g = c.loop-a in
    let t = c.loop-a-test.true in (
      omega (arith, t),
      folded_no a.near.now a.steps.now a.k a.i a.j g.near g.steps g.a g.invariant.1
          c.requires.1.0.0 t
          (sym c.is_nearer.ensures ∙ c.if-not-is_nearer.true),
    )

pub overflow_add-near : goal.overflow_add-near
overflow_add-near c = let a = c.args in
    let g = c.loop-a in
    let t = c.loop-a-test.true in
    let q = c.requires in
    omega (arith, q.1.1 g.a t, g.invariant.1.words.beside.below (128 * a.i + g.a) (omega (arith, t, q.1.0.0)))

pub loop-a-preserved : goal.loop-a-preserved
loop-a-preserved c = let a = c.args in
    let g = c.loop-a in
    let t = c.loop-a-test.true in
    let q = c.requires in (
      omega (arith, t),
      folded_yes a.near.now a.steps.now a.k a.i a.j g.near g.steps g.a g.invariant.1 q.1.0.0 t
          (sym c.is_nearer.ensures ∙ c.if-not-is_nearer.false) (omega (arith, t, q.1.0.1, q.0.0, g.invariant.1.words.beside.long))
          (omega (arith, t, q.1.0.1, q.0.1, g.invariant.1.firsts.beside.long)),
    )

pub returns : goal.returns
returns c = let a = c.args in
    let g = c.loop-a in
    let e : g.a ≡ 128 = omega (arith, c.loop-a-test.false, g.invariant.0) in
    subst (λ (n : ℕ). Folded a.near.now a.steps.now a.k a.i a.j g.near g.steps n) e g.invariant.1
