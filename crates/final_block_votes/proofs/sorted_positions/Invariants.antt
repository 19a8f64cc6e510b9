use Prim.Native.Nat.{◌-◌}
use Rattle.final_block_votes.proofs.Along.{Walked}
use Rattle.final_block_votes.proofs.sorted_positions.Given as goal

abbrev pub invariant-loop-k : goal.invariant-loop-k
invariant-loop-k l = Walked l.store l.initial.order l.order l.at l.k
