use mathlib.Core.Path.{◌≡◌}
use lib.ListN.{length}
use Rattle.index_parts.proofs.Held.{Holding}
use Rattle.index_parts.proofs.part_end.Given as goal

abbrev pub invariant-loop-spot : goal.invariant-loop-spot
invariant-loop-spot l = (length l.ahead ≡ length l.initial.cursors) × Holding l.own l.initial.mine l.mine l.index l.n
    l.initial.cursors l.cursors l.spot l.at

abbrev pub decreases-loop-spot : goal.decreases-loop-spot
decreases-loop-spot l = l.spot.left
