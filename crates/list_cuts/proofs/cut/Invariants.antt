use Prim.Native.Nat.{◌-◌, ◌<◌}
use Rattle.base.proofs.Narrowed.{Narrowed}
use Rattle.list_cuts.proofs.Cutting.{Low, High}
use Rattle.list_cuts.proofs.cut.Given as goal

abbrev pub invariant-loop-low : goal.invariant-loop-low
invariant-loop-low l = (l.at < l.low) × Narrowed l.n (Low l.store l.edges l.at) (High l.store l.edges l.at) l.low l.high

abbrev pub decreases-loop-low : goal.decreases-loop-low
decreases-loop-low l = l.high - l.low
