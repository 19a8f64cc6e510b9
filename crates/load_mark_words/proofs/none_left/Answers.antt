use Prim.Native.Nat.{◌-◌}
use native.Mathlib.Omega.{arith}
use Rattle.load_mark_words.specs.Marks.{NoneLeft}
use Rattle.load_mark_words.proofs.Left.{none_more}
use Rattle.load_mark_words.proofs.none_left.Goals as goal

pub loop-k-init : goal.loop-k-init
loop-k-init c = (omega arith, λ j h. absurd (omega arith))

pub returns-then-marks-k-ne0 : goal.returns-then-marks-k-ne0
unfolding NoneLeft
returns-then-marks-k-ne0 c = let l = c.loop-k in (l.k, c.loop-k-test.true, c.if-marks-k-ne0.true)

pub loop-k-preserved : goal.loop-k-preserved
loop-k-preserved c = let l = c.loop-k in (
  omega (arith, c.loop-k-test.true),
  none_more
      c.args.marks.now l.k l.invariant.1 c.if-marks-k-ne0.false,
)

pub returns : goal.returns
unfolding NoneLeft
returns c = let l = c.loop-k in λ j h. l.invariant.1 j (omega (arith, c.loop-k-test.false))
