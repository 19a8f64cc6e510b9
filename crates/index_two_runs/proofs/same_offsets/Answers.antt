use mathlib.Core.Path.{refl}
use Rattle.base.proofs.Tests.{not_both}
use Rattle.index_two_runs.proofs.Two.{same_more, words_same}
use native.Mathlib.Omega.{arith}
use Rattle.index_two_runs.proofs.same_offsets.Goals as goal

pub loop-i-init : goal.loop-i-init
loop-i-init c = (omega arith, λ j h. absurd (omega arith))

pub returns-then-index-pos : goal.returns-then-index-pos
returns-then-index-pos c = λ t. absurd (not_both t refl)

pub loop-i-preserved : goal.loop-i-preserved
loop-i-preserved c = (
  omega arith,
  same_more c.args.index.now
      c.args.words.now c.args.pos
      c.args.at c.loop-i.i c.loop-i.invariant.1
      c.if-index-pos.false,
)

pub returns : goal.returns
returns c = λ t. words_same c.args.index.now c.args.words.now c.args.pos
    c.args.at (λ j h. c.loop-i.invariant.1 j (omega (arith, c.loop-i-test.false)))
