use mathlib.Core.Path.{sym, ◌∙◌}
use mathlib.Core.Bool.{false, ◌&&◌}
use Prim.Native.Nat.{◌-◌}
use native.Mathlib.Omega.{arith}
use Rattle.slip_read_ancestry.proofs.Lost.{none_more}
use Rattle.committee_set.specs.AuthoritySet.{member}
use Rattle.slip_read_rejecters.specs.Rejecting.{Meeting}
use Rattle.slip_read_rejecters.proofs.meet.Goals as goal

pub loop-i-init : goal.loop-i-init
loop-i-init c = λ j h. absurd (omega arith)

pub returns-then-in_both : goal.returns-then-in_both
unfolding Meeting
returns-then-in_both c = (c.loop-i.i, (c.loop-i-test.true, sym c.in_both.ensures ∙ c.if-in_both.true))

pub loop-i-preserved : goal.loop-i-preserved
loop-i-preserved c = none_more (λ j. member c.args.a j && member c.args.b j)
    c.loop-i.i c.loop-i.invariant (sym c.in_both.ensures ∙ c.if-in_both.false)

pub returns : goal.returns
unfolding Meeting
returns c = λ a h. c.loop-i.invariant a (omega (arith, h, c.loop-i-test.false))
