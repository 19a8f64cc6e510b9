use native.Mathlib.Omega.{arith}
use borrow.Author.Tests.{eqb-false}
use Rattle.index_run_order.proofs.Apart.{goes_offset, goes_low, goes_high}
use Rattle.index_run_order.proofs.goes_on.Goals as goal

pub returns-then-index-at : goal.returns-then-index-at
returns-then-index-at c = λ e g. omega (arith, c.if-index-at.true, goes_offset c.args.index.now c.args.at g)

pub returns-then-index-at-2 : goal.returns-then-index-at-2
returns-then-index-at-2 c = λ e g. omega (
  arith,
  c.if-index-at-2.true,
  goes_low c.args.index.now
      c.args.at g,
)

pub returns : goal.returns
returns c = λ e g. eqb-false _ _ e
    (goes_high c.args.index.now
    c.args.at g)
