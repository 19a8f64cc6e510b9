use Prim.Native.Nat.{◌+◌}
use native.Mathlib.Omega.{arith}
use lib.ListN.{length}
use borrow.Author.Tests.{le-leb}
use Rattle.record_statement.specs.Values.{as_statement}
use Rattle.draft_accept_runs.specs.Step.{payload_inside}
use Rattle.draft_joined.specs.Step.{TookGiven}
use Rattle.draft_joined.proofs.Given.{share_cut, share_short, share_reads}
use Rattle.draft_joined.proofs.take_long_share.Goals as goal

pub returns-then-s-at-lt5 : goal.returns-then-s-at-lt5
unfolding TookGiven
returns-then-s-at-lt5 c =
    let o = c in
    let s = o.args.s.now in
    let p = o.args.at in
    share_cut s p o.requires.0 o.requires.1 (omega arith)

pub returns-then-s-start : goal.returns-then-s-start
unfolding TookGiven
returns-then-s-start c =
    let o = c in
    let s = o.args.s.now in
    let p = o.args.at in
    share_short s p o.requires.0 o.requires.1 (omega arith) (omega (arith, c.read_u32-len.ensures))

pub returns : goal.returns
unfolding TookGiven as_statement payload_inside
returns c =
    let o = c in
    let s = o.args.s.now in
    let p = o.args.at in
    let n = c.read_u32-len.result in (
      share_reads s p o.requires.0 o.requires.1 n c.read_u32-len.ensures (omega arith),
      (omega arith, (omega arith, le-leb (p + 5 + n) (length s) (omega arith))),
    )
