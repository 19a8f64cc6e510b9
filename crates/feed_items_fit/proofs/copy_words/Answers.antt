use mathlib.Core.Path.{sym, ◌∙◌}
use Prim.Native.Nat.{◌-◌}
use native.Mathlib.Omega.{arith}
use Rattle.feed_items_fit.proofs.Copying.{copied_start, copied_on, copied_all}
use Rattle.feed_items_fit.proofs.copy_words.Goals as goal

pub loop-i-init : goal.loop-i-init
loop-i-init c = copied_start _ _ c.requires

pub bounds-to-i : goal.bounds-to-i
bounds-to-i c = omega (arith, c.loop-i.invariant.long, c.loop-i-test.true)

pub loop-i-preserved : goal.loop-i-preserved
loop-i-preserved c = copied_on _ _ _ c.loop-i.invariant c.loop-i-test.true

pub shape_of-to : goal.shape_of-to
shape_of-to c = sym c.loop-i.invariant.long ∙ c.requires

pub returns : goal.returns
returns c = copied_all _ _ _ c.loop-i.invariant c.loop-i-test.false
