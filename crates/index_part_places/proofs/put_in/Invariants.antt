use Rattle.index_part_places.proofs.Moving.{Moving}
use Rattle.index_part_places.proofs.put_in.Given as goal

abbrev pub invariant-loop-j : goal.invariant-loop-j
invariant-loop-j l = Moving l.n l.place l.initial.words l.words l.j

abbrev pub decreases-loop-j : goal.decreases-loop-j
decreases-loop-j l = l.j
