use mathlib.Core.Path.{◌≡◌, subst}
use native.Mathlib.Omega.{arith}
use Rattle.index_alike.specs.Alike.{Shared}
use Rattle.index_alike.proofs.Alike.{shared_start, shared_on}
use Rattle.index_alike.proofs.shared_runs.Goals as goal

pub loop-k-init : goal.loop-k-init
loop-k-init c = (omega arith, shared_start _ _ _ _)

pub all_have-requires : goal.all_have-requires
all_have-requires c = (c.requires.0, omega arith)

pub returns-then-not-all_have : goal.returns-then-not-all_have
returns-then-not-all_have c = c.loop-k.invariant

pub loop-k-preserved : goal.loop-k-preserved
loop-k-preserved c =
    let a = c.args in
    let g = c.loop-k in (
      omega (arith, c.loop-k-test.true),
      shared_on a.index.now a.cursors.now a.n a.pos g.k g.invariant.1 (c.all_have.ensures (c.if-not-all_have.false)),
    )

pub returns : goal.returns
returns c =
    let a = c.args in
    let g = c.loop-k in
    let e : g.k ≡ a.most = omega (arith, g.invariant.0, c.loop-k-test.false) in
    (omega arith, subst (Shared a.index.now a.cursors.now a.n a.pos) e g.invariant.1)
