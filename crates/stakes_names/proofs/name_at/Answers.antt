use Prim.Native.Nat.{◌+◌, ◌-◌}
use mathlib.Core.Path.{◌≡◌}
use native.Mathlib.Omega.{arith}
use Rattle.stakes_names.specs.Names.{name_at}
use Rattle.stakes_names.proofs.name_at.Goals as goal

pub returns : goal.returns
unfolding name_at
returns c =
    let p = c.place-from.result in
    let e : (p + 2 + 16) - (p + 2) ≡ 16 = omega arith in
    rw (e, c.place-from.ensures)
