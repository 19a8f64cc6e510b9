use mathlib.Core.Path.{◌≡◌}
use Prim.Native.Nat.{◌-◌}
use lib.ListN.{length, drop}
use lib.Dec.{ltb}
use Rattle.base.specs.Lists.{any_of}
use Rattle.pending_form.proofs.zero_from.Given as goal

abbrev pub invariant-loop-i : goal.invariant-loop-i
invariant-loop-i l = any_of (ltb 0) (drop l.from l.t) ≡ any_of (ltb 0) (drop l.i l.t)
