use Rattle.committee_set.proofs.Counts.{voters_ones}
use lib.Count.{ones-le}
use native.Mathlib.Omega.{arith}
use mathlib.Core.Path.{sym}
use Rattle.committee_set.proofs.AuthoritySet.count.Goals as goal

pub overflow_cast-low : goal.overflow_cast-low
overflow_cast-low c = omega (arith, ones-le 64 c.args.self.low c.struct_known-1.given.0.fits)

pub overflow_cast-high : goal.overflow_cast-high
overflow_cast-high c = omega (arith, ones-le 64 c.args.self.high c.struct_known-2-1.given.1.0.fits)

pub overflow_add-result : goal.overflow_add-result
overflow_add-result c =
    let v = c.args.self in
    let k = c.struct_known-2-1.given in
    omega (arith, ones-le 64 v.low k.0.fits, ones-le 64 v.high k.1.0.fits)

pub returns : goal.returns
returns c =
    let k = c.struct_known-2-1.given in
    sym (voters_ones c.args.self (record { low = k.0.fits; high = k.1.0.fits }))
