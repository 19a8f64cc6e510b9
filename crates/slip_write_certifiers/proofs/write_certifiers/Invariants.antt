use Prim.Native.Nat.{◌+◌, ◌-◌, ◌≤◌}
use mathlib.Core.Path.{◌≡◌}
use lib.ListN.{length}
use lib.Seq.{sets}
use Rattle.record_spec.specs.Reference.{TransactionLocator}
use Rattle.slip_write_distances.specs.Near.{Distances}
use Rattle.slip_write_certifiers.specs.Ready.{certifiers_bytes, certifiers_size}
use Rattle.slip_write_certifiers.proofs.Written.{size_on, bytes_on}
use Rattle.slip_write_certifiers.proofs.write_certifiers.Given as goal

abbrev pub invariant-loop-i : goal.invariant-loop-i
invariant-loop-i l =
    (l.i ≤ l.n)
    × ((l.to + size_on l.near l.certifiers l.n l.i ≡ l.at + certifiers_size l.near l.certifiers l.n)
    × ((length l.out ≡ length l.initial.out)
    × ((loc : TransactionLocator) → Distances l.store l.order loc l.near l.steps (length l.order)
    → sets l.initial.out l.at (certifiers_bytes l.store l.order loc l.certifiers l.n) ≡ sets l.out l.to (bytes_on l.store l.order loc l.certifiers l.n l.i))))
