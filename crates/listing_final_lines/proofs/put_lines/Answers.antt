use Prim.Native.Nat.{◌-◌}
use native.Mathlib.Omega.{arith}
use Rattle.listing_final_lines.specs.Lines.{line_of}
use Rattle.listing_final_lines.proofs.Lines.{put_start, put_next, put_full, put_done}
use Rattle.listing_final_lines.proofs.put_lines.Goals as goal

pub loop-next-init : goal.loop-next-init
loop-next-init c = put_start _ _ _

pub overflow_sub-out : goal.overflow_sub-out
overflow_sub-out c = omega arith

pub shape_of-out-then-out-at-lt128 : goal.shape_of-out-then-out-at-lt128
shape_of-out-then-out-at-lt128 c = c.loop-next.invariant.long

pub returns-then-out-at-lt128 : goal.returns-then-out-at-lt128
returns-then-out-at-lt128 c = put_full c.loop-next.invariant (omega (arith, c.loop-next.invariant.room, c.if-out-at-lt128.true))

pub loop-next-preserved : goal.loop-next-preserved
unfolding line_of
loop-next-preserved c = put_next c.loop-next.invariant c.put_final-at.ensures
    (omega (arith, c.loop-next-test.true))

pub shape_of-out : goal.shape_of-out
shape_of-out c = c.loop-next.invariant.long

pub returns : goal.returns
returns c = put_done c.loop-next.invariant (omega (arith, c.loop-next-test.false))
