use mathlib.Core.Path.{refl}
use Rattle.base.proofs.Tests.{not_both}
use Rattle.index_alike.proofs.Alike.{same_more, run_same}
use native.Mathlib.Omega.{arith}
use Rattle.index_alike.proofs.same_run.Goals as goal

pub loop-i-init : goal.loop-i-init
loop-i-init c = (omega arith, λ j h. absurd (omega arith))

pub returns-then-index-a : goal.returns-then-index-a
returns-then-index-a c = λ t. absurd (not_both t refl)

pub loop-i-preserved : goal.loop-i-preserved
loop-i-preserved c =
    let a = c.args in
    let g = c.loop-i in
    (omega arith, same_more a.index.now a.a a.b g.i g.invariant.1 c.if-index-a.false)

pub returns : goal.returns
returns c = λ t.
    let a = c.args in
    let g = c.loop-i in
    run_same a.index.now a.a a.b (λ j h. g.invariant.1 j (omega (arith, c.loop-i-test.false)))
