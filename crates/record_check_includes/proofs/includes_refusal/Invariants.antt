use mathlib.Core.Path.{◌≡◌}
use Prim.Native.Nat.{◌-◌, ◌≤◌}
use lib.ListN.{length, drop}
use Rattle.record_spec.specs.Record.{block_in}
use Rattle.record_check_includes.proofs.Includes.{of_includes}
use Rattle.record_check_includes.proofs.includes_refusal.Given as goal

abbrev pub invariant-loop-k : goal.invariant-loop-k
invariant-loop-k l =
    (l.k ≤ length (block_in l.rec).includes) × (of_includes l.stakes (block_in l.rec) (block_in l.rec).includes ≡ of_includes l.stakes (block_in l.rec)
    (drop l.k (block_in l.rec).includes))
