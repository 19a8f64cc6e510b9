use Prim.Native.Nat.{◌-◌, ◌≤◌}
use mathlib.Core.Path.{◌≡◌}
use lib.ListN.{length, take}
use lib.Seq.{sets}
use Rattle.stakes_file.proofs.put_in_front.Given as goal

abbrev pub invariant-loop-i : goal.invariant-loop-i
invariant-loop-i l = (l.i ≤ length l.members) × ((length l.stakes ≡ length l.initial.stakes) × (l.stakes ≡ sets l.initial.stakes 0 (take l.i l.members)))
