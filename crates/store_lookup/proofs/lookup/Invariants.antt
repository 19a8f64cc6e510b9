use Rattle.types.specs.Values.{as_reference}
use Rattle.store_lookup.proofs.Along.{Along}
use Rattle.store_lookup.proofs.lookup.Given as goal

abbrev pub invariant-loop-left : goal.invariant-loop-left
invariant-loop-left l = Along l.store (as_reference l.block) l.at l.left

abbrev pub decreases-loop-left : goal.decreases-loop-left
decreases-loop-left l = l.left
