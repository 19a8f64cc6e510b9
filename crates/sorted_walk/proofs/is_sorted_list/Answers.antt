use mathlib.Core.Path.{sym}
use native.Mathlib.Omega.{arith}
use Rattle.sorted_walk.proofs.Lists.{rising_start, rising_next, sorted_cut, sorted_yes, sorted_no, compared}
use Rattle.sorted_walk.proofs.is_sorted_list.Goals as goal

pub returns-then-locators-ne0 : goal.returns-then-locators-ne0
returns-then-locators-ne0 c = sym (sorted_cut c.args.locators.now c.if-locators-ne0.true)

pub loop-i-init : goal.loop-i-init
loop-i-init c = (omega arith, rising_start c.args.locators.now)

pub read_locator-last-requires : goal.read_locator-last-requires
read_locator-last-requires c = omega (arith, c.loop-i-test.true)

pub read_locator-next-requires : goal.read_locator-next-requires
read_locator-next-requires c = omega (arith, c.loop-i-test.true)

pub returns-then-locator_before : goal.returns-then-locator_before
returns-then-locator_before c =
    let a = c.args in
    let g = c.loop-i in
    sym (sorted_no a.locators.now (omega (arith, c.if-locators-ne0.false)) g.i g.invariant.0
    c.loop-i-test.true (compared c.locator_before.ensures c.read_locator-next.ensures
    c.read_locator-last.ensures c.if-locator_before.true))

pub loop-i-preserved : goal.loop-i-preserved
loop-i-preserved c =
    let a = c.args in
    let g = c.loop-i in (
      omega arith,
      rising_next a.locators.now g.i g.invariant.0 g.invariant.1
          (compared c.locator_before.ensures c.read_locator-next.ensures c.read_locator-last.ensures
          c.if-locator_before.false),
    )

pub returns : goal.returns
returns c =
    let a = c.args in
    let g = c.loop-i in
    sym (sorted_yes a.locators.now (omega (arith, c.if-locators-ne0.false)) g.i (omega (arith, c.loop-i-test.false)) g.invariant.1)
