use mathlib.Core.Path.{refl, sym, ap, ◌∙◌}
use native.Mathlib.Omega.{arith}
use lib.Seq.{sets}
use Rattle.slip_write_routes.specs.Reached.{Reached}
use Rattle.slip_write_routes.proofs.Listing.{size_all, size_yes, size_no, size_end, bytes_all, bytes_yes, bytes_no, bytes_end}
use Rattle.slip_write_routes.proofs.write_voters.Goals as goal

pub loop-a-init : goal.loop-a-init
loop-a-init c = let a = c.args in (
  omega arith,
  (
    omega (arith, size_all a.near.now a.k a.voters),
    (refl, λ l d. ap (sets a.out.now a.at) (sym (bytes_all a.store.now a.order.now l a.k a.voters))),
  ),
)

pub loop-a-preserved-then-not-contains : goal.loop-a-preserved-then-not-contains
loop-a-preserved-then-not-contains c = let a = c.args in
    let s = a.store.now in
    let o = a.order.now in
    let w = a.near.now in
    let g = c.loop-a in
    let t = c.loop-a-test.true in
    let e = sym c.contains.ensures ∙ c.if-not-contains.true in (
      omega (arith, t),
      (
        omega (arith, g.invariant.1.0, size_no w a.k a.voters g.a t e),
        (g.invariant.1.1.0, λ l d. g.invariant.1.1.1 l d ∙ ap (sets g.out g.to) (bytes_no s o l a.k a.voters g.a t e)),
      ),
    )

pub write_voter-to-requires : goal.write_voter-to-requires
unfolding Reached
write_voter-to-requires c = let a = c.args in
    let q = c.requires in
    let s = a.store.now in
    let o = a.order.now in
    let w = a.near.now in
    let g = c.loop-a in
    let t = c.loop-a-test.true in
    let e = sym c.contains.ensures ∙ c.if-not-contains.false in
    let r = q.1.0 g.a t e in
    (q.0, (t, (r, omega (arith, g.invariant.1.0, g.invariant.1.1.0, q.1.1, size_yes w a.k a.voters g.a t e))))

pub loop-a-preserved : goal.loop-a-preserved
unfolding Reached
loop-a-preserved c = let a = c.args in
    let q = c.requires in
    let s = a.store.now in
    let o = a.order.now in
    let w = a.near.now in
    let g = c.loop-a in
    let t = c.loop-a-test.true in
    let e = sym c.contains.ensures ∙ c.if-not-contains.false in
    let r = q.1.0 g.a t e in
    let x = c.write_voter-to.ensures in (
      omega (arith, t),
      (
        omega (arith, x.value, g.invariant.1.0, size_yes w a.k a.voters g.a t e),
        (
          c.write_voter-to.auto.out ∙ g.invariant.1.1.0,
          λ l d. g.invariant.1.1.1 l d ∙ bytes_yes s o l w a.steps.now
              q.0.0.0 d a.k q.0.1.0 a.voters g.a t e r g.out g.to ∙ rw (← x.out_after l d, ← x.value),
        ),
      ),
    )

pub shape_of-out : goal.shape_of-out
shape_of-out c = c.loop-a.invariant.1.1.0

pub returns : goal.returns
returns c = let a = c.args in
    let g = c.loop-a in
    let e = c.loop-a-test.false in record {
      value = omega (arith, g.invariant.1.0, size_end a.near.now a.k a.voters g.a e);
      out_after = λ l d. sym
          (g.invariant.1.1.1 l d ∙ ap (sets g.out g.to) (bytes_end a.store.now a.order.now l a.k a.voters g.a e));
    }
