use Prim.Native.Nat.{◌-◌}
use native.Mathlib.Omega.{arith}
use borrow.Author.Count.{below_more}
use Rattle.list_include_sets.specs.Sets.{SameBefore}
use Rattle.list_include_sets.proofs.same_before.Goals as goal

pub returns-then-k-eq0 : goal.returns-then-k-eq0
returns-then-k-eq0 c = λ e. absurd (omega arith)

pub returns-then-sets-k : goal.returns-then-sets-k
returns-then-sets-k c = λ e. absurd (omega arith)

pub loop-w-preserved : goal.loop-w-preserved
loop-w-preserved c = (
  c.loop-w.invariant.0,
  (omega arith, below_more _ _ c.loop-w.invariant.1.1 c.if-sets-k.false),
)

pub returns : goal.returns
unfolding SameBefore
returns c = λ e. let g = c.loop-w in
    (c.args.k - 1, (omega (arith, g.invariant.0), λ i h. g.invariant.1.1 i (omega (arith, h, c.loop-w-test.false))))
