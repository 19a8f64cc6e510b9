use mathlib.Core.Path.{◌≡◌}
use Prim.Native.Nat.{◌-◌, ◌≤◌}
use lib.ListN.{length}
use Rattle.slip_read_ancestry.specs.Lacking.{Lacking}
use Rattle.slip_read_ancestry.proofs.note_lacking.Given as goal

abbrev pub invariant-loop-j : goal.invariant-loop-j
invariant-loop-j l = Lacking l.records l.order l.j l.lacking × ((length l.lacking ≡ length l.initial.lacking) × (l.j ≤ length l.order))
