use native.Mathlib.Omega.{arith}
use Rattle.pending_spec.specs.Table.{room}
use Rattle.pending_words.proofs.room_of.Goals as goal

pub returns-then-t-eq0 : goal.returns-then-t-eq0
unfolding room
returns-then-t-eq0 c = omega arith

pub returns : goal.returns
unfolding room
returns c = omega arith
