use mathlib.Core.Path.{refl}
use Prim.Native.Nat.{◌+◌}
use native.Mathlib.Omega.{arith}
use Rattle.record_statement.specs.Values.{as_statement}
use Rattle.record_statement.specs.Step.{payload_between, Took}
use lib.Dec.{eqb}
use borrow.Author.Tests.{eq-eqb}
use Rattle.base.proofs.Tests.{and_both}
use Rattle.record_statement.proofs.Steps.{share_cut, share_short, share_reads}
use Rattle.record_statement.proofs.take_share.Goals as goal

pub returns-then-s-at-lt3 : goal.returns-then-s-at-lt3
unfolding Took
returns-then-s-at-lt3 c =
    let o = c in
    let s = o.args.s.now in
    let p = o.args.at in
    share_cut s p o.requires.0 o.requires.1 (omega arith)

pub returns-then-s-start : goal.returns-then-s-start
unfolding Took
returns-then-s-start c =
    let o = c in
    let s = o.args.s.now in
    let p = o.args.at in
    share_short s p o.requires.0 o.requires.1 (omega arith) (omega (arith, c.read_u16-len.ensures))

pub returns : goal.returns
unfolding Took as_statement payload_between
returns c =
    let o = c in
    let s = o.args.s.now in
    let p = o.args.at in
    let n = c.read_u16-len.result in (
      share_reads s p o.requires.0 o.requires.1 n c.read_u16-len.ensures (omega arith),
      (omega arith, and_both (eqb (p + 3) (p + 3)) (eqb (p + 3 + n) (p + 3 + n)) (eq-eqb (p + 3) (p + 3) refl) (eq-eqb (p + 3 + n) (p + 3 + n) refl)),
    )
