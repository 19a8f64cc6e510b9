use mathlib.Core.Path.{◌≡◌}
use mathlib.Core.Bool.{true}
use Prim.Native.Nat.{◌+◌, ◌-◌, ◌≤◌}
use lib.ListN.{length}
use lib.Seq.{sets}
use Rattle.draft_joined.specs.Step.{joined_from}
use Rattle.draft_size.specs.Step.{bytes_in, writable}
use Rattle.draft_parts.proofs.write_statements.Given as goal

abbrev pub invariant-loop-at : goal.invariant-loop-at
invariant-loop-at l =
    (l.at ≤ length l.s)
    × ((writable (joined_from l.s l.at) ≡ true)
    × ((l.to + length (bytes_in (joined_from l.s l.at)) ≤ length l.out)
    × ((length l.out ≡ length l.initial.out) × (sets l.initial.out l.from (bytes_in (joined_from l.s 0)) ≡ sets l.out l.to (bytes_in (joined_from l.s l.at))))))

abbrev pub decreases-loop-at : goal.decreases-loop-at
decreases-loop-at l = length l.s - l.at
