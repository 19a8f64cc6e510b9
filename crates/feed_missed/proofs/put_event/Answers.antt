use native.Mathlib.Omega.{arith}
use native.Mathlib.Numerals.{towards_suc}
use lib.ListN.{length-set}
use Rattle.feed_missed.proofs.put_event.Goals as goal

pub bounds-events-b-2 : goal.bounds-events-b-2
bounds-events-b-2 c = simp length-set (omega arith)

pub bounds-events-b-3 : goal.bounds-events-b-3
bounds-events-b-3 c = simp length-set (omega arith)

pub returns : goal.returns
returns c = simp towards_suc
