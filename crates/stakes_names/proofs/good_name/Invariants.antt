use Prim.Native.Nat.{◌-◌, ◌<◌, ◌≤◌}
use mathlib.Core.Path.{◌≡◌}
use lib.ListN.{length, drop}
use Rattle.stakes_names.specs.Names.{padded, good_name}
use Rattle.stakes_names.proofs.good_name.Given as goal

abbrev pub invariant-loop-i : goal.invariant-loop-i
invariant-loop-i l = (0 < l.i) × ((l.i ≤ length l.name) × (good_name l.name ≡ padded (drop (l.i - 1) l.name)))
