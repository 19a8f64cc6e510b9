use Prim.Native.Nat.{◌-◌, ◌≤◌}
use mathlib.Core.Path.{◌≡◌}
use lib.ListN.{length}
use Rattle.types.specs.Values.{as_locator}
use Rattle.final_readings_spec.specs.Answers.{as_reading}
use Rattle.final_voters.specs.Walk.{RemembersBoth}
use Rattle.slip_write_table.specs.Table.{Listed}
use Rattle.slip_write_table.proofs.list_certifiers.Given as goal

abbrev pub invariant-loop-i : goal.invariant-loop-i
invariant-loop-i l =
    ((l.i ≤ length l.positions) × (length l.certifiers ≡ length l.initial.certifiers))
    × (RemembersBoth l.store l.order (as_locator l.locator) l.memo
    × Listed (as_reading l.reading) l.store l.order (as_locator l.locator) l.positions l.certifiers l.i)
