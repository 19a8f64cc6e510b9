use native.Mathlib.Omega.{arith}
use Rattle.index_run_order.proofs.Apart.{apart_one, apart_on, apart_fewer}
use Rattle.index_run_order.proofs.apart_runs.Goals as goal

pub loop-k-init : goal.loop-k-init
loop-k-init c = (omega arith, apart_one c.args.index.now c.args.pos)

pub returns-then-goes_on : goal.returns-then-goes_on
returns-then-goes_on c = (omega (arith, c.loop-k-test.true), c.loop-k.invariant.1)

pub loop-k-preserved : goal.loop-k-preserved
loop-k-preserved c = (
  omega arith,
  apart_on c.args.index.now c.args.pos
      c.loop-k.k c.loop-k.invariant.0 c.loop-k.invariant.1
      (c.goes_on.ensures c.if-goes_on.false),
)

pub returns : goal.returns
returns c = (
  omega arith,
  apart_fewer c.args.index.now c.args.pos
      c.args.most c.loop-k.k (omega (arith, c.loop-k-test.false)) c.loop-k.invariant.1,
)
