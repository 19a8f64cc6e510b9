use Prim.Native.Nat.{◌+◌, ◌-◌, ◌*◌, ◌≤◌}
use mathlib.Core.Path.{◌≡◌}
use Rattle.slip_write_routes.specs.Reached.{voters_size}
use Rattle.slip_write_routes.proofs.Listing.{size_from}
use Rattle.slip_write_routes.proofs.voters_size.Given as goal

abbrev pub invariant-loop-a : goal.invariant-loop-a
invariant-loop-a l = (l.a ≤ 128) × ((l.size ≤ 65544 * l.a) × (l.size + size_from l.near l.k l.voters l.a ≡ voters_size l.near l.k l.voters))
