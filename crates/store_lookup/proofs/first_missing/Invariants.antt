use Prim.Native.Nat.{◌≤◌, ◌-◌, ◌+◌}
use mathlib.Core.Path.{◌≡◌}
use lib.ListN.{drop}
use Rattle.record_spec.specs.Record.{block_in}
use Rattle.types.specs.Values.{as_reference}
use Rattle.store_spec.specs.Store.{records_of}
use Rattle.store_spec.specs.Accept.{first_missing}
use Rattle.store_lookup.proofs.Ordered.{Above}
use Rattle.store_lookup.proofs.first_missing.Given as goal

abbrev pub invariant-chain : goal.invariant-chain
invariant-chain l = (l.k ≡ l.initial.k) × Above l.store l.order (as_reference l.block) l.left

abbrev pub decreases-chain : goal.decreases-chain
decreases-chain l = l.left

abbrev pub invariant-includes : goal.invariant-includes
invariant-includes l = (l.k ≤ l.count) × (first_missing (records_of l.store) (block_in l.rec).includes ≡ l.k + first_missing (records_of l.store)
    (drop l.k (block_in l.rec).includes))

abbrev pub decreases-includes : goal.decreases-includes
decreases-includes l = l.count - l.k
