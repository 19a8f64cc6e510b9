use Prim.Native.Nat.{◌≤◌, ◌-◌}
use lib.ListN.{length}
use Rattle.ring_owners.proofs.Scans.{Scanned}
use Rattle.ring_owners.proofs.next_to_ring.Given as goal

abbrev pub invariant-loop-i : goal.invariant-loop-i
invariant-loop-i l = (l.i ≤ length l.stakes) × Scanned l.stakes l.counted l.reachable l.i l.best l.most
