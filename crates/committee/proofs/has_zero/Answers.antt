use mathlib.Core.Path.{refl, sym, ◌∙◌}
use native.Mathlib.Omega.{arith}
use lib.Dec.{eqb}
use borrow.Author.Tests.{eq-eqb, ne_eqb}
use Rattle.base.proofs.Loops.{any_found, any_on, any_end}
use Rattle.committee.proofs.has_zero.Goals as goal

pub loop-stake-init : goal.loop-stake-init
loop-stake-init c = (omega arith, refl)

pub returns-then-stake-eq0 : goal.returns-then-stake-eq0
returns-then-stake-eq0 c =
    let l = c.args.stakes.now in
    let at = c.loop-stake in
    sym (at.invariant.1 ∙ any_found (λ s. eqb s 0) l at.stake-index c.loop-stake-test.true (eq-eqb _ 0 c.if-stake-eq0.true))

pub loop-stake-preserved : goal.loop-stake-preserved
loop-stake-preserved c =
    let l = c.args.stakes.now in
    let at = c.loop-stake in
    let test = c.loop-stake-test.true in
    (omega arith, at.invariant.1 ∙ any_on (λ s. eqb s 0) l at.stake-index test (ne_eqb _ 0 c.if-stake-eq0.false))

pub returns : goal.returns
returns c =
    let l = c.args.stakes.now in
    sym (c.loop-stake.invariant.1 ∙ any_end (λ s. eqb s 0) l c.loop-stake.stake-index c.loop-stake-test.false)
