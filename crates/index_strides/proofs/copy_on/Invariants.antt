use mathlib.Core.Path.{◌≡◌}
use Prim.Native.Nat.{◌-◌, ◌≤◌}
use lib.ListN.{take, drop}
use lib.Seq.{sets}
use Rattle.index_strides.proofs.copy_on.Given as goal

abbrev pub invariant-loop-i : goal.invariant-loop-i
invariant-loop-i l = (l.i ≤ l.count) × (l.index ≡ sets l.initial.index l.to (take l.i (drop l.from l.initial.index)))
