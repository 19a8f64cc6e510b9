use Rattle.std.proofs.Common.{◌+◌, ◌%◌, arith, sym}
use Rattle.listing_text.proofs.Text.{wrote_none, wrote_byte, wrote_same, length_wrote, decimal_one, decimal_more, length_tenth}
use Rattle.listing_text.proofs.+put_decimal.Goals as goal

pub returns-then-n-lt10 : goal.returns-then-n-lt10
returns-then-n-lt10 t c =
    let start = c.args in
    wrote_same (sym (decimal_one start.n c.if-n-lt10.true)) (wrote_byte (48 + start.n) (wrote_none start.out.now start.at (omega arith)) (omega arith))

pub bounds-out-next : goal.bounds-out-next
bounds-out-next t c =
    let wrote = c.put_decimal-next.ensures in
    omega (arith, length_tenth c.args.n c.ranges.n.fits, wrote.end, wrote.fits, length_wrote wrote)

pub returns : goal.returns
returns t c =
    let n = c.args.n in
    let wrote = c.put_decimal-next.ensures in
    wrote_same (sym (decimal_more n c.ranges.n.fits c.if-n-lt10.false))
    (wrote_byte (48 + n % 10) wrote (omega (arith, length_tenth n c.ranges.n.fits, wrote.end, length_wrote wrote)))
