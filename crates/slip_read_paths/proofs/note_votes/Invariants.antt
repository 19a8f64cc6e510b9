use mathlib.Core.Path.{◌≡◌}
use Prim.Native.Nat.{◌-◌, ◌≤◌}
use lib.ListN.{length}
use Rattle.types.specs.Values.{as_locator}
use Rattle.slip_read_paths.specs.Walk.{Noted}
use Rattle.slip_read_paths.proofs.note_votes.Given as goal

abbrev pub invariant-loop-j : goal.invariant-loop-j
invariant-loop-j l = Noted l.records l.order (as_locator l.locator) l.j l.votes × ((length l.votes ≡ length l.initial.votes) × (l.j ≤ length l.order))
