use Rattle.std.proofs.Common.{arith}
use Rattle.listing_run.proofs.Counting.{counting_start, counting_on, counting_end}
use Rattle.listing_run.proofs.print_stretches.Goals as goal

pub loop-i-init : goal.loop-i-init
loop-i-init g c = (omega arith, counting_start _ _)

pub loop-i-preserved : goal.loop-i-preserved
loop-i-preserved g c = (
  omega arith,
  rw c.wrapping_add_u64-finals.ensures.value
      (counting_on _ _ _ _ _ c.loop-i.invariant.1 c.loop-i-test.true c.read_stretch-stretch.ensures),
)

pub returns : goal.returns
returns g c = counting_end _ _ _ _ c.loop-i.invariant.1 (omega (arith, c.loop-i.invariant.0, c.loop-i-test.false))
