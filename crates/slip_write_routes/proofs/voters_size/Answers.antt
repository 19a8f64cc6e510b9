use Prim.Native.Nat.{◌+◌, ◌*◌}
use mathlib.Core.Path.{sym, ◌∙◌}
use native.Mathlib.Omega.{arith}
use Rattle.slip_write_routes.proofs.Listing.{size_all, size_yes, size_no, size_end}
use Rattle.slip_write_routes.proofs.voters_size.Goals as goal

pub loop-a-init : goal.loop-a-init
loop-a-init c = (omega arith, (omega arith, omega (arith, size_all c.args.near.now c.args.k c.args.voters)))

pub overflow_cast-more : goal.overflow_cast-more
overflow_cast-more c = omega (arith, c.shared_slice_known-in-loop-a-1.given (128 * c.args.k + c.loop-a.a))

pub overflow_add-more-in-loop-a : goal.overflow_add-more-in-loop-a
overflow_add-more-in-loop-a c = omega (arith, c.shared_slice_known-in-loop-a-1.given (128 * c.args.k + c.loop-a.a))

pub loop-a-preserved-then-not-votes : goal.loop-a-preserved-then-not-votes
loop-a-preserved-then-not-votes c = let a = c.args in
    let g = c.loop-a in
    let t = c.loop-a-test.true in
    let e = sym c.contains-votes.ensures ∙ c.if-not-votes.true in
    (omega (arith, t), (omega (arith, g.invariant.1.0), omega (arith, g.invariant.1.1, size_no a.near.now a.k a.voters g.a t e)))

pub overflow_add-size : goal.overflow_add-size
overflow_add-size c = let a = c.args in
    let g = c.loop-a in
    let t = c.loop-a-test.true in
    let w = c.shared_slice_known-in-loop-a-1.given (128 * a.k + g.a) in
    omega (arith, w, g.invariant.1.0, t)

pub loop-a-preserved : goal.loop-a-preserved
loop-a-preserved c = let a = c.args in
    let g = c.loop-a in
    let t = c.loop-a-test.true in
    let w = c.shared_slice_known-in-loop-a-1.given (128 * a.k + g.a) in
    let e = sym c.contains-votes.ensures ∙ c.if-not-votes.false in
    (omega (arith, t), (omega (arith, w, g.invariant.1.0), omega (arith, g.invariant.1.1, size_yes a.near.now a.k a.voters g.a t e)))

pub returns : goal.returns
returns c = let a = c.args in
    let g = c.loop-a in
    record {
      value = omega (arith, g.invariant.1.1, size_end a.near.now a.k a.voters g.a c.loop-a-test.false);
      upper_bound = omega
          (arith, g.invariant.0, g.invariant.1.0);
    }
