use Prim.Native.Nat.{◌-◌}
use Rattle.types.specs.Values.{as_locator}
use Rattle.load_places.proofs.Halving.{Around}
use Rattle.load_places.proofs.is_listed.Given as goal

abbrev pub invariant-loop-low : goal.invariant-loop-low
invariant-loop-low l = Around l.store l.places l.n (as_locator l.share) l.low l.high

abbrev pub decreases-loop-low : goal.decreases-loop-low
decreases-loop-low l = l.high - l.low
