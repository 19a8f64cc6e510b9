use Prim.Native.Nat.{◌-◌}
use mathlib.Core.Path.{◌≡◌}
use mathlib.Core.List.{map}
use lib.ListN.{length, drop}
use Rattle.stakes_names.specs.Names.{name_at, good_names}
use Rattle.stakes_names.proofs.good_names.Given as goal

abbrev pub invariant-loop-k : goal.invariant-loop-k
invariant-loop-k l = good_names (map (name_at l.file) l.indexes) ≡ good_names (map (name_at l.file) (drop l.k l.indexes))

abbrev pub decreases-loop-k : goal.decreases-loop-k
decreases-loop-k l = length l.indexes - l.k
