use Prim.Native.Nat.{◌-◌, ◌<◌}
use lib.ListN.{length}
use Rattle.sorted_walk.proofs.Lists.{Rising}
use Rattle.sorted_walk.proofs.is_sorted_list.Given as goal

abbrev pub invariant-loop-i : goal.invariant-loop-i
invariant-loop-i l = (0 < l.i) × Rising l.locators l.i
