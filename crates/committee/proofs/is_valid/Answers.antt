use mathlib.Core.Path.{sym}
use Prim.Native.Nat.{◌*◌, ◌-◌, ◌/◌}
use native.Mathlib.Omega.{arith}
use borrow.Author.Tests.{lt-ltb}
use Rattle.base.proofs.Loops.{ltb_same}
use Rattle.committee.proofs.is_valid.Goals as goal

pub returns-then-t-s : goal.returns-then-t-s
returns-then-t-s c =
    let t = c.args.total.0 in
    let s = c.args.amount.0 in
    sym (lt-ltb t (3 * s) (omega arith))

pub returns : goal.returns
returns c =
    let t = c.args.total.0 in
    let s = c.args.amount.0 in
    ltb_same ((t - s) / 2) s t (3 * s) (λ h. omega arith) (λ h. omega arith)
