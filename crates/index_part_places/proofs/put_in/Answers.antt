use native.Mathlib.Omega.{arith}
use Rattle.index_part_places.proofs.Moving.{moving_none, moving_on, moving_put}
use Rattle.index_part_places.proofs.put_in.Goals as goal

pub loop-j-init : goal.loop-j-init
loop-j-init c = moving_none _ _ _ c.requires.0

pub loop-j-preserved : goal.loop-j-preserved
loop-j-preserved c = moving_on _ _ _ _ _ c.loop-j.invariant c.requires.1 c.loop-j-test.true

pub returns : goal.returns
returns c = moving_put _ _ _ _ _ c.loop-j.invariant c.requires.1 _ (omega (arith, c.loop-j-test.false))
