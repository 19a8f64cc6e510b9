use Prim.Native.Nat.{◌≤◌, ◌-◌}
use lib.ListN.{length, take}
use Rattle.listing_text.specs.Text.{Wrote, numbers}
use Rattle.listing_text.proofs.put_numbers.Given as goal

abbrev pub invariant-loop-number : goal.invariant-loop-number
invariant-loop-number l = (l.number-index ≤ length l.ns) × Wrote l.initial.out l.out l.at l.to (numbers (take l.number-index l.ns))
