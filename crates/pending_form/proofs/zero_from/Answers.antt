use mathlib.Core.Path.{refl, ◌∙◌}
use lib.Dec.{ltb}
use borrow.Author.Tests.{lt-ltb, le-ltb}
use Rattle.base.proofs.Loops.{any_found, any_on, any_end}
use Rattle.pending_form.proofs.zero_from.Goals as goal

pub loop-i-init : goal.loop-i-init
loop-i-init c = refl

pub returns-then-t-i-gt0 : goal.returns-then-t-i-gt0
returns-then-t-i-gt0 c = rw (c.loop-i.invariant, any_found (ltb 0) _ _ c.loop-i-test.true (lt-ltb _ _ c.if-t-i-gt0.true))

pub loop-i-preserved : goal.loop-i-preserved
loop-i-preserved c = c.loop-i.invariant ∙ any_on (ltb 0) _ _ c.loop-i-test.true (le-ltb _ _ c.if-t-i-gt0.false)

pub returns : goal.returns
returns c = rw (c.loop-i.invariant, any_end (ltb 0) _ _ c.loop-i-test.false)
