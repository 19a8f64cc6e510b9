use lib.ListN.{length}
use native.Mathlib.Omega.{arith}
use borrow.Author.Tests.{eq-eqb, ne_eqb, lt-ltb, le-ltb}
use Rattle.base.specs.Le.{le_at}
use Rattle.listing_input.specs.Input.{size_of}
use Rattle.listing_input.proofs.size_of.Goals as goal

pub returns-then-head-eq0 : goal.returns-then-head-eq0
unfolding size_of
returns-then-head-eq0 c = rw (eq-eqb (length c.args.head.now) 0 c.if-head-eq0.true)

pub returns-then-head-lt4 : goal.returns-then-head-lt4
unfolding size_of
returns-then-head-lt4 c = rw (
  ne_eqb (length c.args.head.now) 0 c.if-head-eq0.false,
  lt-ltb
      (length c.args.head.now) 4 c.if-head-lt4.true,
)

pub returns-then-size-gt-MAX_RECORD : goal.returns-then-size-gt-MAX_RECORD
unfolding size_of
returns-then-size-gt-MAX_RECORD c =
    let s = c.args.head.now in
    let size = c.read_u32-size.ensures in
    rw (
      ne_eqb (length s) 0 c.if-head-eq0.false,
      le-ltb (length s) 4 c.if-head-lt4.false,
      lt-ltb 8192 (le_at 4 s 0)
          (omega (arith, size)),
    )

pub returns : goal.returns
unfolding size_of
returns c =
    let s = c.args.head.now in
    let size = c.read_u32-size.ensures in
    rw (
      ne_eqb (length s) 0 c.if-head-eq0.false,
      le-ltb (length s) 4 c.if-head-lt4.false,
      le-ltb 8192 (le_at 4 s 0)
          (omega (arith, size)),
      size,
    )
