use mathlib.Core.Path.{◌≡◌}
use Prim.Native.Nat.{◌-◌, ◌≤◌}
use lib.ListN.{length}
use Rattle.types.specs.Values.{as_locator}
use Rattle.slip_read_rejecters.specs.Rejecting.{Rejecting}
use Rattle.slip_read_rejecters.proofs.note_rejecters.Given as goal

abbrev pub invariant-loop-j : goal.invariant-loop-j
invariant-loop-j l = Rejecting l.records l.order (as_locator l.locator) l.j l.rejecting ×
    ((length l.rejecting ≡ length l.initial.rejecting) × (l.j ≤ length l.order))
