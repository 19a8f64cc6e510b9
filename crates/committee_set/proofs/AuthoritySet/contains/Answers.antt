use native.Mathlib.Omega.{arith}
use Prim.Native.Nat.{◌-◌}
use mathlib.Core.Path.{sym}
use Rattle.committee_set.proofs.Bits.{mask_bit, bit_past}
use Rattle.committee_set.specs.AuthoritySet.{member}
use borrow.Author.Tests.{lt-ltb, le-ltb}
use Rattle.committee_set.proofs.AuthoritySet.contains.Goals as goal

pub returns-then-k-lt64 : goal.returns-then-k-lt64
unfolding member
returns-then-k-lt64 c = rw (lt-ltb _ _ c.if-k-lt64.true, c.mask-m.ensures) (mask_bit _ _)

pub returns-then-k-lt128 : goal.returns-then-k-lt128
unfolding member
returns-then-k-lt128 c = rw (le-ltb _ _ c.if-k-lt64.false, c.mask-m-then-k-lt128.ensures) (mask_bit _ _)

pub returns : goal.returns
unfolding member
returns c =
    let start = c in
    let high = start.args.self.high in
    let a = start.args.v.0 in
    rw (le-ltb a 64 c.if-k-lt64.false) (sym (bit_past 64 high (a - 64) (omega arith) (omega arith)))
