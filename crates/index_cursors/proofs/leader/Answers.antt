use Rattle.index_pieces.specs.Sources.{cursor_left}
use Rattle.index_cursors.specs.Cursors.{Leads}
use native.Mathlib.Omega.{arith}
use Rattle.index_cursors.proofs.leader.Goals as goal

pub loop-j-init : goal.loop-j-init
loop-j-init c = tt

pub returns-then-cursors-j-ne0 : goal.returns-then-cursors-j-ne0
unfolding Leads cursor_left
returns-then-cursors-j-ne0 c = λ h. omega (arith, c.if-cursors-j-ne0.true)

pub loop-j-preserved : goal.loop-j-preserved
loop-j-preserved c = tt

pub returns : goal.returns
returns c = λ h. absurd (omega arith)
