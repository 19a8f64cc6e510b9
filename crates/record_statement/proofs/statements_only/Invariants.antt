use mathlib.Core.Path.{◌≡◌}
use Prim.Native.Nat.{◌≤◌}
use lib.ListN.{length, drop}
use Rattle.record_statement.specs.Step.{statements_only}
use Rattle.record_statement.proofs.statements_only.Given as goal

abbrev pub invariant-loop-left : goal.invariant-loop-left
invariant-loop-left l = (l.at ≤ length l.s) × (statements_only l.count (drop l.from l.s) ≡ statements_only l.left (drop l.at l.s))

abbrev pub decreases-loop-left : goal.decreases-loop-left
decreases-loop-left l = l.left
