use mathlib.Core.Path.{refl}
use Rattle.base.proofs.Tests.{not_both}
use Rattle.index_pieces.specs.Sources.{cursor_at, cursor_left}
use Rattle.index_alike.proofs.Alike.{have_start, have_on, have_end}
use native.Mathlib.Omega.{arith}
use Rattle.index_alike.proofs.all_have.Goals as goal

pub loop-j-init : goal.loop-j-init
loop-j-init c = have_start _ _ _ _

pub has_run-requires : goal.has_run-requires
unfolding cursor_at cursor_left
has_run-requires c = (
  omega (
    arith,
    c.requires.0.inside c.loop-j.j
        c.loop-j-test.true,
  ),
  c.requires.1,
)

pub returns-then-not-has_run : goal.returns-then-not-has_run
returns-then-not-has_run c = λ t. absurd (not_both t refl)

pub loop-j-preserved : goal.loop-j-preserved
unfolding cursor_at cursor_left
loop-j-preserved c =
    let a = c.args in
    have_on a.index.now a.cursors.now a.pos a.k c.loop-j.j
    c.loop-j.invariant (c.has_run.ensures (c.if-not-has_run.false))

pub returns : goal.returns
returns c = λ t.
    let a = c.args in
    have_end a.index.now a.cursors.now a.pos a.k a.n c.loop-j.j (omega (arith, c.loop-j-test.false)) c.loop-j.invariant
