use Prim.Native.Nat.{◌≤◌, ◌-◌}
use lib.ListN.{length}
use Rattle.store_spec.specs.Store.{records_of}
use Rattle.store_order.proofs.Accepting.{Accepting}
use Rattle.store_order.proofs.accepted_in_turn.Given as goal

abbrev pub invariant-loop-start : goal.invariant-loop-start
invariant-loop-start l = (l.start-index ≤ length l.starts) × Accepting l.stakes (records_of l.store) l.start-index
