use native.Mathlib.Omega.{arith}
use Rattle.slip_write_table.specs.Table.{place_in, voters_in}
use Rattle.slip_write_certifiers.proofs.Written.{size_first, size_next, size_last}
use Rattle.slip_write_certifiers.proofs.certifiers_size.Goals as goal

pub loop-i-init : goal.loop-i-init
loop-i-init c = let a = c.args in
    (omega arith, (omega arith, omega (arith, size_first a.near.now a.certifiers.now a.n)))

pub voters_size-requires : goal.voters_size-requires
voters_size-requires c = let q = c.requires in
    omega (arith, q.0.0, q.1.1 c.loop-i.i c.loop-i-test.true)

pub overflow_add-size : goal.overflow_add-size
overflow_add-size c = omega (
  arith,
  c.voters_size.ensures.upper_bound,
  c.loop-i.invariant.1.0,
  c.loop-i-test.true,
  c.requires.0.1,
)

pub overflow_add-size-in-loop-i : goal.overflow_add-size-in-loop-i
overflow_add-size-in-loop-i c = omega (
  arith,
  c.voters_size.ensures.upper_bound,
  c.loop-i.invariant.1.0,
  c.loop-i-test.true,
  c.requires.0.1,
)

pub loop-i-preserved : goal.loop-i-preserved
unfolding place_in voters_in
loop-i-preserved c = let a = c.args in
    let g = c.loop-i in
    let t = c.loop-i-test.true in
    let e = c.voters_size.ensures in (
      omega (arith, t),
      (
        omega (arith, e.upper_bound, g.invariant.1.0),
        omega
            (arith, e.value, g.invariant.1.1, size_next a.near.now a.certifiers.now a.n g.i t),
      ),
    )

pub returns : goal.returns
returns c = let a = c.args in
    let g = c.loop-i in record {
      value = omega (arith, g.invariant.1.1, size_last a.near.now a.certifiers.now a.n g.i c.loop-i-test.false);
      upper_bound = omega
          (arith, g.invariant.0, g.invariant.1.0, c.requires.0.1);
    }
