use mathlib.Core.Path.{◌≡◌}
use mathlib.Core.Bool.{false}
use Prim.Native.Nat.{ℕ, ◌-◌, ◌<◌}
use lib.ListN.{get_or}
use Rattle.record_spec.specs.Record.{no_reference}
use Rattle.slip_spec.specs.Supplied.{supplied_blocks}
use Rattle.slip_read_records.specs.Places.{block_at_place}
use Rattle.slip_read_ancestry.proofs.Lost.{lost}
use Rattle.slip_read_ancestry.proofs.lacks_ancestor.Given as goal

abbrev pub invariant-loop-k : goal.invariant-loop-k
invariant-loop-k l = (i : ℕ) → i < l.k → lost (supplied_blocks l.records)
    (get_or (block_at_place l.records l.order l.place).includes i no_reference) ≡ false
