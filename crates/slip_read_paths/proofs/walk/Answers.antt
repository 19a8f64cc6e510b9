use Rattle.slip_read_paths.specs.Walk.{to_place, ends, missing}
use Rattle.slip_read_paths.proofs.Walks.{led_block, led_nowhere, led_missing, walks_on, walks_nowhere, walks_missing, walks_end}
use mathlib.Core.Path.{refl, ◌∙◌}
use native.Mathlib.Omega.{arith}
use Rattle.slip_read_paths.proofs.walk.Goals as goal

pub loop-i-init : goal.loop-i-init
loop-i-init c = (c.requires.1, refl)

pub overflow_cast-path : goal.overflow_cast-path
overflow_cast-path c = omega (arith, c.shared_slice_known-in-loop-i-1.given c.loop-i.i)

pub step-led-requires : goal.step-led-requires
step-led-requires c = (c.requires.0, c.loop-i.invariant.0)

pub loop-i-preserved : goal.loop-i-preserved
loop-i-preserved c =
    let led = led_block _ _ _ _ _ c.in-To.is c.step-led.ensures in (
      led.0,
      c.loop-i.invariant.1 ∙ walks_on _ _ _ _ _
          c.loop-i-test.true led.1,
    )

pub returns-in-Nowhere : goal.returns-in-Nowhere
returns-in-Nowhere c = rw (c.loop-i.invariant.1 ∙ walks_nowhere _ _ _ _ c.loop-i-test.true
    (led_nowhere _ _ _ _ c.in-Nowhere.is c.step-led.ensures)) ends

pub returns-in-NotGiven : goal.returns-in-NotGiven
returns-in-NotGiven c = rw (c.loop-i.invariant.1 ∙ walks_missing _ _ _ _ c.loop-i-test.true
    (led_missing _ _ _ _ c.in-NotGiven.is c.step-led.ensures)) missing

pub returns : goal.returns
returns c = rw (c.loop-i.invariant.1 ∙ walks_end _ _ _ _ c.loop-i-test.false) (to_place _ c.loop-i.invariant.0)
