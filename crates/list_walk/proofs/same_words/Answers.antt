use Rattle.list_walk.proofs.Walking.{same_more}
use Rattle.list_walk.specs.Walk.{SameWords}
use native.Mathlib.Omega.{arith}
use Rattle.list_walk.proofs.same_words.Goals as goal

pub loop-k-init : goal.loop-k-init
loop-k-init c = (omega arith, λ j h. absurd (omega arith))

pub offset_bounds-a-k : goal.offset_bounds-a-k
offset_bounds-a-k c = omega (arith, c.loop-k-test.true, c.requires, c.well_formed)

pub bounds-a-k : goal.bounds-a-k
bounds-a-k c = omega (arith, c.loop-k-test.true, c.requires)

pub offset_bounds-b-k : goal.offset_bounds-b-k
offset_bounds-b-k c = omega (arith, c.loop-k-test.true, c.requires, c.well_formed)

pub bounds-b-k : goal.bounds-b-k
bounds-b-k c = omega (arith, c.loop-k-test.true, c.requires)

pub returns-then-a-k : goal.returns-then-a-k
unfolding SameWords
returns-then-a-k c = (c.loop-k.k, (c.loop-k-test.true, λ e. c.if-a-k.true e))

pub loop-k-preserved : goal.loop-k-preserved
loop-k-preserved c = (
  omega (arith, c.loop-k-test.true),
  λ j h. same_more c.args.a.now
      c.args.b.now c.loop-k.k c.loop-k.invariant.1
      c.if-a-k.false j h,
)

pub returns : goal.returns
unfolding SameWords
returns c = λ j h. c.loop-k.invariant.1 j (omega (arith, h, c.loop-k-test.false))
