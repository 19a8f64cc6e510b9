use Prim.Native.Nat.{◌≤◌, ◌-◌}
use mathlib.Core.Path.{◌≡◌}
use lib.ListN.{drop}
use Rattle.base.specs.Lists.{all_of}
use Rattle.record_spec.specs.Record.{block_in}
use Rattle.store_spec.specs.Layout.{entries}
use Rattle.store_spec.specs.Store.{records_of}
use Rattle.store_spec.specs.Check.{stored_before}
use Rattle.store_order.proofs.includes_before.Given as goal

abbrev pub invariant-loop-k : goal.invariant-loop-k
invariant-loop-k l = (l.k ≤ l.count) × (all_of (stored_before (entries (records_of l.store)) l.at) (block_in l.rec).includes ≡ all_of
    (stored_before (entries (records_of l.store)) l.at) (drop l.k (block_in l.rec).includes))
