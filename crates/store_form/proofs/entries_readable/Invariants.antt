use Prim.Native.Nat.{◌≤◌, ◌-◌}
use mathlib.Core.Path.{◌≡◌}
use lib.ListN.{length}
use Rattle.store_spec.proofs.Loops.{Walking}
use Rattle.store_form.proofs.entries_readable.Given as goal

abbrev pub invariant-loop-i : goal.invariant-loop-i
invariant-loop-i l = Walking l.store l.i l.at l.starts × ((length l.starts ≡ length l.initial.starts) × ((l.i ≤ l.count) × (l.at ≤ length l.store)))
