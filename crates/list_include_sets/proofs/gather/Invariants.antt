use Prim.Native.Nat.{◌-◌, ◌*◌, ◌≤◌}
use mathlib.Core.Path.{◌≡◌}
use Rattle.list_include_sets.specs.Sets.{gathered_to}
use Rattle.list_include_sets.proofs.gather.Given as goal

abbrev pub invariant-loop-i : goal.invariant-loop-i
invariant-loop-i l = (l.i ≤ 16) × (l.found ≡ gathered_to l.sets l.memo l.k (64 * l.i))
