use Prim.Native.Nat.{◌+◌, ◌-◌, ◌*◌, ◌≤◌}
use mathlib.Core.Path.{◌≡◌}
use Rattle.slip_write_certifiers.specs.Ready.{certifiers_size}
use Rattle.slip_write_certifiers.proofs.Written.{size_on}
use Rattle.slip_write_certifiers.proofs.certifiers_size.Given as goal

abbrev pub invariant-loop-i : goal.invariant-loop-i
invariant-loop-i l =
    (l.i ≤ l.n) × ((l.size ≤ 8389681 * l.i) × (l.size + size_on l.near l.certifiers l.n l.i ≡ certifiers_size l.near l.certifiers l.n))
