use Prim.Native.Nat.{◌-◌, ◌≤◌}
use mathlib.Core.Path.{◌≡◌}
use mathlib.Core.Bool.{false}
use mathlib.Core.Option.{some}
use Rattle.record_spec.specs.Reference.{TransactionLocator}
use Rattle.types.specs.Values.{as_maybe}
use Rattle.list_row_sort.specs.Rows.{rows_of}
use Rattle.list_range_rows.specs.Ranges.{any_covers}
use Rattle.list_sweep_start.proofs.any_covers.Given as goal

abbrev pub invariant-loop-i : goal.invariant-loop-i
invariant-loop-i l = (l.i ≤ l.m) × ((loc : TransactionLocator) → as_maybe l.last ≡ some loc → any_covers l.store (rows_of l.rows l.i) loc ≡ false)
