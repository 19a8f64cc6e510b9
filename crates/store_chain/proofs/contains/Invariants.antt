use Prim.Native.Nat.{◌<◌, ◌-◌}
use lib.ListN.{length, get_or}
use Rattle.base.proofs.Narrowed.{Narrowed}
use Rattle.store_chain.proofs.contains.Given as goal

abbrev pub invariant-loop-low : goal.invariant-loop-low
invariant-loop-low l = Narrowed (length l.sorted) (λ j. get_or l.sorted j 0 < l.x) (λ j. l.x < get_or l.sorted j 0) l.low l.high

abbrev pub decreases-loop-low : goal.decreases-loop-low
decreases-loop-low l = l.high - l.low
