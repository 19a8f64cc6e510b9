use Prim.Native.Nat.{◌+◌, ◌-◌, ◌≤◌}
use mathlib.Core.Path.{◌≡◌}
use lib.ListN.{length}
use lib.Seq.{sets}
use Rattle.record_spec.specs.Reference.{TransactionLocator}
use Rattle.slip_write_distances.specs.Near.{Distances}
use Rattle.slip_write_routes.specs.Reached.{voters_at, voters_size}
use Rattle.slip_write_routes.proofs.Listing.{size_from, bytes_from}
use Rattle.slip_write_routes.proofs.write_voters.Given as goal

abbrev pub invariant-loop-a : goal.invariant-loop-a
invariant-loop-a l =
    (l.a ≤ 128)
    × ((l.to + size_from l.near l.k l.voters l.a ≡ l.at + voters_size l.near l.k l.voters)
    × ((length l.out ≡ length l.initial.out)
    × ((loc : TransactionLocator) → Distances l.store l.order loc l.near l.steps (length l.order)
    → sets l.initial.out l.at (voters_at l.store l.order loc l.k l.voters) ≡ sets l.out l.to (bytes_from l.store l.order loc l.k l.voters l.a))))
