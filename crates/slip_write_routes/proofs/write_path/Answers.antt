use Prim.Native.Nat.{◌+◌, ◌-◌, ◌*◌, ◌<◌}
use mathlib.Core.Path.{◌≡◌, refl, sym, ap, ◌∙◌}
use native.Mathlib.Omega.{arith}
use lib.ListN.{get_or, length-set}
use lib.Seq.{sets}
use Rattle.record_spec.specs.Record.{no_reference}
use Rattle.final_block_votes.specs.Walk.{block_at_place}
use Rattle.final_block_votes.proofs.Sorting.{place_entry, include_found}
use Rattle.slip_write_routes.specs.Reached.{Found}
use Rattle.slip_write_routes.proofs.Steps.{path_starts, step_inside, step_word, step_written, steps_none}
use Rattle.slip_write_routes.proofs.write_path.Goals as goal

pub overflow_mul-left : goal.overflow_mul-left
unfolding Found
overflow_mul-left c = let a = c.args in
    let q = c.requires in
    let f = q.0.0.1 in
    omega (arith, f.1.long, q.0.1.0, q.0.1.1, q.1.0, q.1.1.0)

pub overflow_add-left : goal.overflow_add-left
unfolding Found
overflow_add-left c = let a = c.args in
    let q = c.requires in
    let f = q.0.0.1 in
    omega (arith, f.1.long, q.0.1.0, q.0.1.1, q.1.0, q.1.1.0)

pub offset_bounds-near-k : goal.offset_bounds-near-k
unfolding Found
offset_bounds-near-k c = let a = c.args in
    let q = c.requires in
    let f = q.0.0.1 in
    omega (arith, f.1.long, q.0.1.0, q.0.1.1, q.1.0, q.1.1.0)

pub bounds-near-k : goal.bounds-near-k
unfolding Found
bounds-near-k c = let a = c.args in
    let q = c.requires in
    let f = q.0.0.1 in
    omega (arith, f.1.long, q.0.1.0, q.0.1.1, q.1.0, q.1.1.0)

pub overflow_sub-left : goal.overflow_sub-left
unfolding Found
overflow_sub-left c = let a = c.args in
    let q = c.requires in
    let f = q.0.0.1 in
    omega (arith, f.1.long, q.0.1.0, q.0.1.1, q.1.0, q.1.1.0)

pub loop-left-init : goal.loop-left-init
unfolding Found
loop-left-init c = let a = c.args in
    let q = c.requires in
    let f = q.0.0.1 in
    let n : get_or a.near.now (128 * a.k + a.a) 0 ≡ get_or a.near.now (128 * a.k + a.a) 0 - 1 + 1 = omega (arith, q.1.1.0) in (
      (q.0.1.0, n),
      (
        omega (arith, n),
        (
          refl,
          λ l d. ap (sets a.out.now a.at)
              (path_starts a.store.now a.order.now l a.near.now a.steps.now q.0.0.0 d a.k q.0.1.0 a.a q.1.0 _ n),
        ),
      ),
    )

pub overflow_mul-j : goal.overflow_mul-j
unfolding Found
overflow_mul-j c = let a = c.args in
    let q = c.requires in
    let f = q.0.0.1 in
    let g = c.loop-left in
    omega (arith, f.1.long, f.1.long_steps, g.invariant.0.0, q.0.1.1, q.1.0)

pub overflow_add-j : goal.overflow_add-j
unfolding Found
overflow_add-j c = let a = c.args in
    let q = c.requires in
    let f = q.0.0.1 in
    let g = c.loop-left in
    omega (arith, f.1.long, f.1.long_steps, g.invariant.0.0, q.0.1.1, q.1.0)

pub bounds-steps-p : goal.bounds-steps-p
unfolding Found
bounds-steps-p c = let a = c.args in
    let q = c.requires in
    let f = q.0.0.1 in
    let g = c.loop-left in
    omega (arith, f.1.long, f.1.long_steps, g.invariant.0.0, q.0.1.1, q.1.0)

pub bounds-out-to : goal.bounds-out-to
bounds-out-to c = let a = c.args in
    let q = c.requires in
    let f = q.0.0.1 in
    let g = c.loop-left in
    omega (arith, g.invariant.1.0, g.invariant.1.1.0, q.1.1.1, c.loop-left-test.true)

pub offset_bounds-order-p : goal.offset_bounds-order-p
unfolding Found
offset_bounds-order-p c = let a = c.args in
    let q = c.requires in
    let f = q.0.0.1 in
    let g = c.loop-left in
    omega (arith, f.1.long, f.1.long_steps, g.invariant.0.0, q.0.1.1, q.1.0)

pub bounds-order-p : goal.bounds-order-p
unfolding Found
bounds-order-p c = let a = c.args in
    let q = c.requires in
    let f = q.0.0.1 in
    let g = c.loop-left in
    omega (arith, f.1.long, f.1.long_steps, g.invariant.0.0, q.0.1.1, q.1.0)

pub overflow_cast-j : goal.overflow_cast-j
overflow_cast-j c = omega (
  arith,
  c.shared_slice_known-in-loop-left-1.given
      (128 * c.loop-left.p + c.args.a),
)

pub include_at-include-requires : goal.include_at-include-requires
unfolding Found block_at_place
include_at-include-requires c = let a = c.args in
    let q = c.requires in
    let f = q.0.0.1 in
    let g = c.loop-left in
    let s = a.store.now in
    let o = a.order.now in
    let i = step_inside s o f.0 a.near.now a.steps.now q.0.0.0 f.1 g.p g.invariant.0.0 a.a q.1.0 g.left
    (omega (arith, c.loop-left-test.true)) g.invariant.0.1 in
    (place_entry s o q.0.0.0 g.p g.invariant.0.0, i)

pub place_of-p-requires : goal.place_of-p-requires
unfolding Found block_at_place
place_of-p-requires c = let a = c.args in
    let q = c.requires in
    let f = q.0.0.1 in
    let g = c.loop-left in
    let s = a.store.now in
    let o = a.order.now in
    let i = step_inside s o f.0 a.near.now a.steps.now q.0.0.0 f.1 g.p g.invariant.0.0 a.a q.1.0 g.left
    (omega (arith, c.loop-left-test.true)) g.invariant.0.1 in
    (q.0.0.0, rw c.include_at-include.ensures (include_found s o q.0.0.0 g.p g.invariant.0.0 (get_or a.steps.now (128 * g.p + a.a) 0) i))

pub overflow_add-to : goal.overflow_add-to
overflow_add-to c = let a = c.args in
    let q = c.requires in
    let f = q.0.0.1 in
    let g = c.loop-left in
    omega (
      arith,
      g.invariant.1.0,
      g.invariant.1.1.0,
      q.1.1.1,
      c.loop-left-test.true,
      c.well_formed,
    )

pub loop-left-preserved : goal.loop-left-preserved
unfolding Found block_at_place
loop-left-preserved c = let a = c.args in
    let q = c.requires in
    let f = q.0.0.1 in
    let g = c.loop-left in
    let s = a.store.now in
    let o = a.order.now in
    let t : 0 < g.left = omega (arith, c.loop-left-test.true) in
    let p = c.place_of-p.result in
    let r : (block_at_place s o p).reference ≡ get_or (block_at_place s o g.p).includes (get_or a.steps.now (128 * g.p + a.a) 0) no_reference =
    c.place_of-p.ensures.1 ∙ c.include_at-include.ensures in
    let m = c.place_of-p.ensures.0 in (
      (m, step_word s o f.0 a.near.now a.steps.now q.0.0.0 f.1 g.p g.invariant.0.0 a.a q.1.0 g.left t g.invariant.0.1 p m r),
      (
        omega (arith, g.invariant.1.0, t),
        (
          length-set g.out _ _ ∙ g.invariant.1.1.0,
          λ l d. g.invariant.1.1.1 l d ∙ step_written s o l a.near.now
              a.steps.now q.0.0.0 d g.p g.invariant.0.0 a.a q.1.0 g.left t g.invariant.0.1 p m r g.out g.to,
        ),
      ),
    )

pub shape_of-out : goal.shape_of-out
shape_of-out c = c.loop-left.invariant.1.1.0

pub returns : goal.returns
returns c = let a = c.args in
    let g = c.loop-left in
    λ l d. sym (g.invariant.1.1.1 l d ∙ steps_none g.left (omega (arith, c.loop-left-test.false)) _ _ _ g.out g.to)
