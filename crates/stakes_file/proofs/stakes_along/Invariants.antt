use Prim.Native.Nat.{◌-◌, ◌≤◌}
use mathlib.Core.Path.{◌≡◌}
use lib.ListN.{length, take}
use lib.Seq.{sets}
use Rattle.stakes_file.specs.Load.{members_at}
use Rattle.stakes_file.proofs.stakes_along.Given as goal

abbrev pub invariant-loop-k : goal.invariant-loop-k
invariant-loop-k l = (l.k ≤ length l.indexes) ×
    ((length l.stakes ≡ length l.initial.stakes) × (l.stakes ≡ sets l.initial.stakes 0 (take l.k (members_at l.file l.indexes))))
