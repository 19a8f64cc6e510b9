use Prim.Native.Nat.{◌-◌}
use Rattle.listing_final_lines.proofs.Lines.{Put}
use Rattle.listing_final_lines.proofs.put_lines.Given as goal

abbrev pub invariant-loop-next : goal.invariant-loop-next
invariant-loop-next l = Put l.stretch l.done l.initial.out l.out l.at l.next

abbrev pub decreases-loop-next : goal.decreases-loop-next
decreases-loop-next l = l.stretch.lines - l.next
