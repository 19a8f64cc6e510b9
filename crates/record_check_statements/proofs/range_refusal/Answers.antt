use native.Mathlib.Omega.{arith}
use borrow.Author.Tests.{lt-ltb, le-ltb, le-leb, lt-leb}
use Rattle.record_check_statements.proofs.range_refusal.Goals as goal

pub returns-then-end-start : goal.returns-then-end-start
returns-then-end-start c = rw (lt-ltb c.args.end c.args.start (omega arith))

pub returns-then-end-ge-MAX_LEN : goal.returns-then-end-ge-MAX_LEN
returns-then-end-ge-MAX_LEN c =
    let o = c in
    rw (le-ltb o.args.end o.args.start (omega arith), le-leb 1048576 o.args.end (omega arith))

pub returns : goal.returns
returns c =
    let o = c in
    rw (le-ltb o.args.end o.args.start (omega arith), lt-leb 1048576 o.args.end (omega arith))
