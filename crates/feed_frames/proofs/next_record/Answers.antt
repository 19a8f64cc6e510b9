use Rattle.feed_frames.proofs.Frames.{next_whole, next_broken}
use native.Mathlib.Omega.{arith}
use Rattle.feed_frames.proofs.next_record.Goals as goal

pub returns-then-records-at-lt4 : goal.returns-then-records-at-lt4
returns-then-records-at-lt4 c = next_broken _ _ c.requires (omega arith)

pub returns-then-records-start : goal.returns-then-records-start
returns-then-records-start c = next_broken _ _ c.requires (omega (arith, c.read_u32-size.ensures))

pub returns : goal.returns
returns c = next_whole _ _ c.requires _ c.read_u32-size.ensures (omega arith)
