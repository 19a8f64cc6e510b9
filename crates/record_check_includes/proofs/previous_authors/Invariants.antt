use mathlib.Core.Path.{◌≡◌}
use Prim.Native.Nat.{◌≤◌}
use lib.ListN.{length, drop}
use Rattle.record_spec.specs.Record.{block_in}
use Rattle.record_spec.specs.Verify.{previous_authors}
use Rattle.record_check_includes.proofs.previous_authors.Given as goal

abbrev pub invariant-loop-left : goal.invariant-loop-left
invariant-loop-left l =
    (l.left ≤ length (block_in l.rec).includes) × (l.voters ≡ previous_authors (block_in l.rec) (drop l.left (block_in l.rec).includes))

abbrev pub decreases-loop-left : goal.decreases-loop-left
decreases-loop-left l = l.left
