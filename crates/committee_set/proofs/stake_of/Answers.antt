use Rattle.committee.proofs.Bounds.{total_most}
use Rattle.committee_set.proofs.Sums.{stake_on, stake_end, stake_most}
use Rattle.committee_set.specs.AuthoritySet.{stake_of}
use native.Mathlib.Omega.{arith}
use Prim.Native.Nat.{◌-◌}
use mathlib.Core.Path.{sym, ◌∙◌}
use Rattle.committee_set.proofs.stake_of.Goals as goal
use Rattle.committee_set.proofs.stake_of.Goals.{then-contains, else-contains}

pub loop-i-init : goal.loop-i-init
unfolding stake_of
loop-i-init c = (omega arith, omega arith)

pub overflow_add-stake : goal.overflow_add-stake
overflow_add-stake c =
    let start = c in
    let l = start.args.stakes.now in
    let v = start.args.votes in
    let at = c.loop-i in
    let voted = sym c.contains.ensures ∙ c.if-contains.true in
    let step = rw voted at (stake_on l v at.i c.loop-i-test.true) in
    omega (arith, step, stake_most l v, total_most l start.requires)

pub loop-i-preserved : goal.loop-i-preserved
loop-i-preserved c =
    let l = c.args.stakes.now in
    let v = c.args.votes in
    let at = c.loop-i in
    let test = c.loop-i-test.true in
    let step = stake_on l v at.i test in
    elim c.if-contains.branch [
      | then-contains w ↦ let more = rw (sym c.contains.ensures ∙ w.if-contains.true) at step in (omega arith, omega arith)
      | else-contains w ↦ let same = rw (sym c.contains.ensures ∙ w.if-contains.false) at step in (omega arith, omega arith)
    ]

pub returns : goal.returns
returns c =
    let l = c.args.stakes.now in
    let v = c.args.votes in
    let at = c.loop-i in
    omega (arith, at.invariant.1, stake_end l v at.i c.loop-i-test.false)
