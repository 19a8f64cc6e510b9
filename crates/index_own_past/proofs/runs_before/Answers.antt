use native.Mathlib.Omega.{arith}
use Rattle.index_own_past.proofs.runs_before.Goals as goal

pub loop-low-init : goal.loop-low-init
loop-low-init c = (omega arith, omega arith)

pub loop-low-preserved-then-begins_past : goal.loop-low-preserved-then-begins_past
loop-low-preserved-then-begins_past c = (omega (arith, c.loop-low-test.true), omega (arith, c.loop-low.invariant.1))

pub loop-low-preserved : goal.loop-low-preserved
loop-low-preserved c = (omega arith, omega arith)

pub returns : goal.returns
returns c = omega arith
