use Prim.Native.Nat.{◌-◌, ◌≤◌}
use Rattle.listing_events.proofs.Events.{Put}
use Rattle.listing_events.proofs.put_events.Given as goal

abbrev pub invariant-loop-j : goal.invariant-loop-j
invariant-loop-j l = Put l.k l.events l.initial.out l.out l.at l.processed l.j × (l.j ≤ l.n)
