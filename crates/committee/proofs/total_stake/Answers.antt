use Rattle.committee.specs.Answers.{total_found}
use Rattle.committee.specs.Committee.{total_stake}
use borrow.Author.Tests.{lt-ltb, le-ltb}
use mathlib.Core.Path.{◌≡◌}
use native.Mathlib.Omega.{arith}
use Rattle.base.specs.Lists.{sum_of}
use Rattle.base.proofs.Loops.{sum_on, sum_end}
use Rattle.committee.proofs.total_stake.Goals as goal

pub returns-then-total-stake : goal.returns-then-total-stake
unfolding total_found total_stake
returns-then-total-stake c =
    let l = c.args.stakes.now in
    let at = c.loop-stake in
    rw (lt-ltb 9223372036854775807 (sum_of l) (omega (arith, sum_on l at.stake-index c.loop-stake-test.true)))

pub loop-stake-preserved : goal.loop-stake-preserved
loop-stake-preserved c =
    let l = c.args.stakes.now in
    let at = c.loop-stake in
    let step = sum_on l at.stake-index c.loop-stake-test.true in
    (omega arith, (omega arith, omega (arith, step)))

pub returns : goal.returns
unfolding total_found total_stake
returns c =
    let l = c.args.stakes.now in
    let at = c.loop-stake in
    let none_left = sum_end l at.stake-index c.loop-stake-test.false in
    let whole : at.total ≡ sum_of l = omega (arith, none_left) in
    rw (le-ltb 9223372036854775807 (sum_of l) (omega arith), whole)
