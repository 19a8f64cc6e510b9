use mathlib.Core.Path.{refl, sym, ap, ◌∙◌}
use native.Mathlib.Omega.{arith}
use lib.Seq.{sets}
use Rattle.base.proofs.Le.{bytes_of}
use Rattle.slip_write_table.specs.Table.{place_in, voters_in}
use Rattle.slip_write_certifiers.specs.Ready.{Ready}
use Rattle.slip_write_certifiers.proofs.Written.{size_first, size_next, bytes_first, bytes_next, bytes_last}
use Rattle.slip_write_certifiers.proofs.write_certifiers.Goals as goal

pub loop-i-init : goal.loop-i-init
loop-i-init c = let a = c.args in (
  omega arith,
  (
    omega (arith, size_first a.near.now a.certifiers.now a.n),
    (refl, λ l d. ap (sets a.out.now a.at) (sym (bytes_first a.store.now a.order.now l a.certifiers.now a.n))),
  ),
)

pub write_certifier-to-requires : goal.write_certifier-to-requires
unfolding Ready place_in voters_in
write_certifier-to-requires c = let a = c.args in
    let q = c.requires in
    let g = c.loop-i in
    let t = c.loop-i-test.true in
    let r = q.1.1.0 g.i t in (
      (q.0.0, (r.0, q.0.1)),
      (
        r.1,
        omega (
          arith,
          g.invariant.1.0,
          g.invariant.1.1.0,
          q.1.1.1,
          size_next a.near.now a.certifiers.now a.n g.i
              t,
        ),
      ),
    )

pub loop-i-preserved : goal.loop-i-preserved
unfolding place_in voters_in
loop-i-preserved c = let a = c.args in
    let q = c.requires in
    let g = c.loop-i in
    let t = c.loop-i-test.true in
    let e = c.write_certifier-to.ensures in
    let bytes = bytes_of a.store.now (λ j h. omega (
      arith,
      c.shared_slice_known-1.given j,
    )) in (
      omega (arith, t),
      (
        omega (arith, e.value, g.invariant.1.0, size_next a.near.now a.certifiers.now a.n g.i t),
        (
          c.write_certifier-to.auto.out ∙ g.invariant.1.1.0,
          λ l d. g.invariant.1.1.1 l d ∙ bytes_next a.store.now
              a.order.now l a.near.now a.steps.now q.0.0.0 bytes d a.certifiers.now a.n q.1.1.0 g.i t g.out g.to ∙ rw
              (← e.out_after l d, ← e.value),
        ),
      ),
    )

pub shape_of-out : goal.shape_of-out
shape_of-out c = c.loop-i.invariant.1.1.0

pub returns : goal.returns
returns c = let a = c.args in
    let g = c.loop-i in
    λ l d. sym (g.invariant.1.1.1 l d ∙ ap (sets g.out g.to)
    (bytes_last a.store.now a.order.now l a.certifiers.now a.n g.i c.loop-i-test.false))
