use Prim.Native.Nat.{◌≤◌, ◌-◌}
use mathlib.Core.Path.{◌≡◌}
use lib.ListN.{length}
use Rattle.store_spec.specs.Store.{records_of}
use Rattle.store_spec.proofs.Loops.{Visiting}
use Rattle.store_chain.proofs.chain_right.Given as goal

abbrev pub invariant-loop-k : goal.invariant-loop-k
invariant-loop-k l = Visiting l.store (records_of l.store) l.k l.at l.last l.order ×
    ((length l.order ≡ length l.initial.order) × (l.k ≤ length l.starts))
