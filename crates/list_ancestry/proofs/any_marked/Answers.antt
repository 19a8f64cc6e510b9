use borrow.Author.Tests.{eq-eqb}
use native.Mathlib.Omega.{arith}
use Rattle.list_ancestry.specs.Heard.{AnyMarked}
use Rattle.list_ancestry.proofs.Marking.{unmarked_more}
use Rattle.list_ancestry.proofs.any_marked.Goals as goal

pub loop-k-init : goal.loop-k-init
loop-k-init c = (omega arith, λ j h. absurd (omega arith))

pub offset_bounds-own-k : goal.offset_bounds-own-k
offset_bounds-own-k c = omega (arith, c.loop-k-test.true, c.requires, c.well_formed)

pub bounds-own-k : goal.bounds-own-k
bounds-own-k c = omega (arith, c.loop-k-test.true, c.requires)

pub returns-then-own-k-eq1 : goal.returns-then-own-k-eq1
unfolding AnyMarked
returns-then-own-k-eq1 c = (c.loop-k.k, (c.loop-k-test.true, eq-eqb _ 1 c.if-own-k-eq1.true))

pub loop-k-preserved : goal.loop-k-preserved
loop-k-preserved c = let g = c.loop-k in (
  omega (arith, c.loop-k-test.true),
  λ j h. unmarked_more c.args.own.now g.k g.invariant.1
      c.if-own-k-eq1.false j h,
)

pub returns : goal.returns
unfolding AnyMarked
returns c = λ j h. c.loop-k.invariant.1 j (omega (arith, h, c.loop-k-test.false))
