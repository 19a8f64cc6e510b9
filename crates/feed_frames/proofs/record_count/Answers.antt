use Rattle.feed_frames.proofs.Frames.{records_end}
use mathlib.Core.Path.{ap}
use Prim.Native.Nat.{◌-◌}
use lib.ListN.{length}
use native.Mathlib.Omega.{arith}
use Rattle.feed_frames.proofs.record_count.Goals as goal

pub loop-at-init : goal.loop-at-init
loop-at-init c = omega arith

pub next_record-next-requires : goal.next_record-next-requires
next_record-next-requires c = omega arith

pub overflow_add-n : goal.overflow_add-n
overflow_add-n c = omega arith

pub loop-at-smaller : goal.loop-at-smaller
loop-at-smaller c = omega (arith, c.next_record-next.ensures)

pub loop-at-preserved : goal.loop-at-preserved
loop-at-preserved c = let n = c.next_record-next.ensures in omega (arith, n.on, n.within, ap length n.records)

pub returns : goal.returns
returns c = omega (arith, ap length (records_end c.args.records.now c.loop-at.at (omega arith)))
