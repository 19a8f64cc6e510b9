use mathlib.Core.Path.{sym, ap}
use lib.Seq.{take_all}
use lib.ListN.{length-set}
use native.Mathlib.Omega.{arith}
use borrow.Author.Rules.{rules}
use Rattle.listing_text.specs.Text.{numbers}
use Rattle.listing_text.proofs.Text.{wrote_none, wrote_same, length_wrote, wrote_number, numbers_none, numbers_room}
use Rattle.listing_text.proofs.put_numbers.Goals as goal

pub loop-number-init : goal.loop-number-init
loop-number-init c = (
  search rules,
  wrote_same (sym (numbers_none c.args.ns.now))
      (wrote_none c.args.out.now c.args.at (omega arith)),
)

pub bounds-out-to : goal.bounds-out-to
bounds-out-to c =
    let b = c.loop-number in
    let ns = c.args.ns.now in
    let wrote = b.invariant.1 in
    omega (arith, numbers_room ns b.number-index b.invariant.0, wrote.end, length_wrote wrote)

pub overflow_add-to : goal.overflow_add-to
overflow_add-to c =
    let b = c.loop-number in
    let ns = c.args.ns.now in
    let wrote = b.invariant.1 in
    omega (arith, numbers_room ns b.number-index b.invariant.0, wrote.end, length_wrote wrote)

pub put_decimal-to-requires : goal.put_decimal-to-requires
put_decimal-to-requires c =
    let b = c.loop-number in
    let ns = c.args.ns.now in
    let wrote = b.invariant.1 in
    simp length-set (omega (arith, numbers_room ns b.number-index b.invariant.0, wrote.end, length_wrote wrote))

pub loop-number-preserved : goal.loop-number-preserved
loop-number-preserved c =
    let b = c.loop-number in
    let ns = c.args.ns.now in
    let wrote = b.invariant.1 in
    let more = c.loop-number-test.true in (
      search rules,
      wrote_number ns b.number-index more (omega (arith, numbers_room ns b.number-index b.invariant.0, wrote.end, length_wrote wrote)) wrote
          c.put_decimal-to.ensures,
    )

pub shape_of-out : goal.shape_of-out
shape_of-out c = length_wrote c.loop-number.invariant.1

pub returns : goal.returns
returns c =
    let b = c.loop-number in
    let ns = c.args.ns.now in
    wrote_same (ap numbers (take_all b.number-index ns (omega arith))) b.invariant.1
