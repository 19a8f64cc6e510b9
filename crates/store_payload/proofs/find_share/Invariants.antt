use Prim.Native.Nat.{◌≤◌, ◌-◌}
use mathlib.Core.Path.{◌≡◌}
use Rattle.record_cursor.specs.Cursor.{cursor_at}
use Rattle.store_payload.proofs.find_share.Given as goal

abbrev pub invariant-loop-i : goal.invariant-loop-i
invariant-loop-i l = (l.cursor ≡ cursor_at l.rec l.i) × (l.i ≤ l.offset)
