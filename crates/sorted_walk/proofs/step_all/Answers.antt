use Prim.Native.Nat.{ℕ, ◌*◌}
use mathlib.Core.Path.{◌≡◌, refl, sym, ap, ◌∙◌}
use native.Mathlib.Omega.{arith}
use mathlib.Core.List.{map}
use lib.ListN.{length, length-replicate}
use Rattle.final_spec.specs.Finality.{blocks_of}
use Rattle.base.proofs.Le.{bytes_of}
use Rattle.store_spec.proofs.Loops.{entry_room}
use Rattle.sorted_spec.specs.Sorted.{single_reply, first_blocks, asked}
use Rattle.sorted_step.specs.Step.{replies_words}
use Rattle.sorted_walk.proofs.Arriving.{arrived, counted}
use Rattle.sorted_walk.proofs.Answering.{answering_start, answering_settled, step_ready, answering_next, answered_first}
use Rattle.sorted_walk.proofs.step_all.Goals as goal

pub loop-k-init : goal.loop-k-init
loop-k-init c =
    let a = c.args in
    let k = c.requires in
    (answering_start a.stakes.now a.store.now a.locators.now a.replies.now k.1.1, omega arith)

pub overflow_add-from : goal.overflow_add-from
overflow_add-from c =
    let a = c.args in
    let k = c.requires in
    let g = c.loop-k in
    let n = counted a.stakes.now a.store.now a.index.now k.0.0.0 k.0.1.0
    (bytes_of a.store.now (λ i h. omega (arith, c.shared_slice_known-2-1.given i))) k.0.1.1 in
    let z = arrived a.stakes.now a.store.now a.index.now k.0.0.0 k.0.1.0
    (bytes_of a.store.now (λ i h. omega (arith, c.shared_slice_known-2-1.given i))) k.0.1.1
    g.invariant.0.older g.k g.at g.p g.invariant.0.arriving (omega (arith, c.loop-k-test.true, k.1.0.1)) in
    let r = entry_room a.store.now g.at z.entry in
    let i = z.inside in
    omega (arith, r.inside, i, c.well_formed)

pub record_end-end-requires : goal.record_end-end-requires
record_end-end-requires c =
    let a = c.args in
    let k = c.requires in
    let g = c.loop-k in
    let n = counted a.stakes.now a.store.now a.index.now k.0.0.0 k.0.1.0
    (bytes_of a.store.now (λ i h. omega (arith, c.shared_slice_known-2-1.given i))) k.0.1.1 in
    let z = arrived a.stakes.now a.store.now a.index.now k.0.0.0 k.0.1.0
    (bytes_of a.store.now (λ i h. omega (arith, c.shared_slice_known-2-1.given i))) k.0.1.1
    g.invariant.0.older g.k g.at g.p g.invariant.0.arriving (omega (arith, c.loop-k-test.true, k.1.0.1)) in
    let r = entry_room a.store.now g.at z.entry in
    let i = z.inside in
    z.entry

pub overflow_add-next : goal.overflow_add-next
overflow_add-next c =
    let a = c.args in
    let k = c.requires in
    let g = c.loop-k in
    let n = counted a.stakes.now a.store.now a.index.now k.0.0.0 k.0.1.0
    (bytes_of a.store.now (λ i h. omega (arith, c.shared_slice_known-2-1.given i))) k.0.1.1 in
    let z = arrived a.stakes.now a.store.now a.index.now k.0.0.0 k.0.1.0
    (bytes_of a.store.now (λ i h. omega (arith, c.shared_slice_known-2-1.given i))) k.0.1.1
    g.invariant.0.older g.k g.at g.p g.invariant.0.arriving (omega (arith, c.loop-k-test.true, k.1.0.1)) in
    let r = entry_room a.store.now g.at z.entry in
    let i = z.inside in
    omega (arith, r.inside, i, c.well_formed)

pub offset_bounds-index-p : goal.offset_bounds-index-p
offset_bounds-index-p c =
    let a = c.args in
    let k = c.requires in
    let g = c.loop-k in
    let n = counted a.stakes.now a.store.now a.index.now k.0.0.0 k.0.1.0
    (bytes_of a.store.now (λ i h. omega (arith, c.shared_slice_known-2-1.given i))) k.0.1.1 in
    let z = arrived a.stakes.now a.store.now a.index.now k.0.0.0 k.0.1.0
    (bytes_of a.store.now (λ i h. omega (arith, c.shared_slice_known-2-1.given i))) k.0.1.1
    g.invariant.0.older g.k g.at g.p g.invariant.0.arriving (omega (arith, c.loop-k-test.true, k.1.0.1)) in
    let r = entry_room a.store.now g.at z.entry in
    let i = z.inside in
    omega (arith, r.inside, i, c.well_formed)

pub bounds-index-p : goal.bounds-index-p
bounds-index-p c =
    let a = c.args in
    let k = c.requires in
    let g = c.loop-k in
    let n = counted a.stakes.now a.store.now a.index.now k.0.0.0 k.0.1.0
    (bytes_of a.store.now (λ i h. omega (arith, c.shared_slice_known-2-1.given i)))
    k.0.1.1 in
    let z = arrived a.stakes.now a.store.now a.index.now k.0.0.0 k.0.1.0
    (bytes_of a.store.now (λ i h. omega (arith, c.shared_slice_known-2-1.given i)))
    k.0.1.1 g.invariant.0.older g.k g.at g.p g.invariant.0.arriving (omega (arith, c.loop-k-test.true, k.1.0.1)) in
    let r = entry_room a.store.now g.at z.entry in
    let i = z.inside in
    omega (arith, r.inside, i, c.well_formed)

pub overflow_mul-next : goal.overflow_mul-next
overflow_mul-next c =
    let a = c.args in
    let k = c.requires in
    let g = c.loop-k in
    let n = counted a.stakes.now a.store.now a.index.now k.0.0.0 k.0.1.0
    (bytes_of a.store.now (λ i h. omega (arith, c.shared_slice_known-2-1.given i)))
    k.0.1.1 in
    let z = arrived a.stakes.now a.store.now a.index.now k.0.0.0 k.0.1.0
    (bytes_of a.store.now (λ i h. omega (arith, c.shared_slice_known-2-1.given i)))
    k.0.1.1 g.invariant.0.older g.k g.at g.p g.invariant.0.arriving (omega (arith, c.loop-k-test.true, k.1.0.1)) in
    let r = entry_room a.store.now g.at z.entry in
    let i = z.inside in
    omega (arith, r.inside, i, c.well_formed)

pub overflow_add-next-in-loop-k : goal.overflow_add-next-in-loop-k
overflow_add-next-in-loop-k c =
    let a = c.args in
    let k = c.requires in
    let g = c.loop-k in
    let n = counted a.stakes.now a.store.now a.index.now k.0.0.0 k.0.1.0
    (bytes_of a.store.now (λ i h. omega (arith, c.shared_slice_known-2-1.given i)))
    k.0.1.1 in
    let z = arrived a.stakes.now a.store.now a.index.now k.0.0.0 k.0.1.0
    (bytes_of a.store.now (λ i h. omega (arith, c.shared_slice_known-2-1.given i)))
    k.0.1.1 g.invariant.0.older g.k g.at g.p g.invariant.0.arriving (omega (arith, c.loop-k-test.true, k.1.0.1)) in
    let r = entry_room a.store.now g.at z.entry in
    let i = z.inside in
    omega (arith, r.inside, i, c.well_formed)

pub slice_bounds-step-count : goal.slice_bounds-step-count
slice_bounds-step-count c =
    let a = c.args in
    let k = c.requires in
    let g = c.loop-k in
    let n = counted a.stakes.now a.store.now a.index.now k.0.0.0 k.0.1.0
    (bytes_of a.store.now (λ i h. omega (arith, c.shared_slice_known-2-1.given i)))
    k.0.1.1 in
    let z = arrived a.stakes.now a.store.now a.index.now k.0.0.0 k.0.1.0
    (bytes_of a.store.now (λ i h. omega (arith, c.shared_slice_known-2-1.given i)))
    k.0.1.1 g.invariant.0.older g.k g.at g.p g.invariant.0.arriving (omega (arith, c.loop-k-test.true, k.1.0.1)) in
    let r = entry_room a.store.now g.at z.entry in
    let i = z.inside in
    omega (arith, r.inside, c.record_end-end.ensures, c.well_formed)

pub slice_bounds-step-start : goal.slice_bounds-step-start
slice_bounds-step-start c =
    let a = c.args in
    let k = c.requires in
    let g = c.loop-k in
    let n = counted a.stakes.now a.store.now a.index.now k.0.0.0 k.0.1.0
    (bytes_of a.store.now (λ i h. omega (arith, c.shared_slice_known-2-1.given i)))
    k.0.1.1 in
    let z = arrived a.stakes.now a.store.now a.index.now k.0.0.0 k.0.1.0
    (bytes_of a.store.now (λ i h. omega (arith, c.shared_slice_known-2-1.given i)))
    k.0.1.1 g.invariant.0.older g.k g.at g.p g.invariant.0.arriving (omega (arith, c.loop-k-test.true, k.1.0.1)) in
    let r = entry_room a.store.now g.at z.entry in
    let i = z.inside in
    omega (arith, r.inside, c.record_end-end.ensures, c.well_formed)

pub slice_bounds-step-end : goal.slice_bounds-step-end
slice_bounds-step-end c =
    let a = c.args in
    let k = c.requires in
    let g = c.loop-k in
    let n = counted a.stakes.now a.store.now a.index.now k.0.0.0 k.0.1.0
    (bytes_of a.store.now (λ i h. omega (arith, c.shared_slice_known-2-1.given i)))
    k.0.1.1 in
    let z = arrived a.stakes.now a.store.now a.index.now k.0.0.0 k.0.1.0
    (bytes_of a.store.now (λ i h. omega (arith, c.shared_slice_known-2-1.given i)))
    k.0.1.1 g.invariant.0.older g.k g.at g.p g.invariant.0.arriving (omega (arith, c.loop-k-test.true, k.1.0.1)) in
    let r = entry_room a.store.now g.at z.entry in
    let i = z.inside in
    omega (arith, r.inside, c.record_end-end.ensures, c.well_formed)

pub offset_bounds-index-p-in-loop-k : goal.offset_bounds-index-p-in-loop-k
offset_bounds-index-p-in-loop-k c =
    let a = c.args in
    let k = c.requires in
    let g = c.loop-k in
    let n = counted a.stakes.now a.store.now a.index.now k.0.0.0 k.0.1.0
    (bytes_of a.store.now (λ i h. omega (arith, c.shared_slice_known-2-1.given i)))
    k.0.1.1 in
    let z = arrived a.stakes.now a.store.now a.index.now k.0.0.0 k.0.1.0
    (bytes_of a.store.now (λ i h. omega (arith, c.shared_slice_known-2-1.given i)))
    k.0.1.1 g.invariant.0.older g.k g.at g.p g.invariant.0.arriving (omega (arith, c.loop-k-test.true, k.1.0.1)) in
    let r = entry_room a.store.now g.at z.entry in
    let i = z.inside in
    omega (arith, r.inside, i, c.well_formed)

pub slice_bounds-step-count-in-loop-k : goal.slice_bounds-step-count-in-loop-k
slice_bounds-step-count-in-loop-k c =
    let a = c.args in
    let k = c.requires in
    let g = c.loop-k in
    let n = counted a.stakes.now a.store.now a.index.now k.0.0.0 k.0.1.0
    (bytes_of a.store.now (λ i h. omega (arith, c.shared_slice_known-2-1.given i)))
    k.0.1.1 in
    let z = arrived a.stakes.now a.store.now a.index.now k.0.0.0 k.0.1.0
    (bytes_of a.store.now (λ i h. omega (arith, c.shared_slice_known-2-1.given i)))
    k.0.1.1 g.invariant.0.older g.k g.at g.p g.invariant.0.arriving (omega (arith, c.loop-k-test.true, k.1.0.1)) in
    let r = entry_room a.store.now g.at z.entry in
    let i = z.inside in
    omega (arith, r.inside, i, c.well_formed)

pub slice_bounds-step-start-in-loop-k : goal.slice_bounds-step-start-in-loop-k
slice_bounds-step-start-in-loop-k c =
    let a = c.args in
    let k = c.requires in
    let g = c.loop-k in
    let n = counted a.stakes.now a.store.now a.index.now k.0.0.0 k.0.1.0
    (bytes_of a.store.now (λ i h. omega (arith, c.shared_slice_known-2-1.given i)))
    k.0.1.1 in
    let z = arrived a.stakes.now a.store.now a.index.now k.0.0.0 k.0.1.0
    (bytes_of a.store.now (λ i h. omega (arith, c.shared_slice_known-2-1.given i)))
    k.0.1.1 g.invariant.0.older g.k g.at g.p g.invariant.0.arriving (omega (arith, c.loop-k-test.true, k.1.0.1)) in
    let r = entry_room a.store.now g.at z.entry in
    let i = z.inside in
    omega (arith, r.inside, i, c.well_formed)

pub slice_bounds-step-end-in-loop-k : goal.slice_bounds-step-end-in-loop-k
slice_bounds-step-end-in-loop-k c =
    let a = c.args in
    let k = c.requires in
    let g = c.loop-k in
    let n = counted a.stakes.now a.store.now a.index.now k.0.0.0 k.0.1.0
    (bytes_of a.store.now (λ i h. omega (arith, c.shared_slice_known-2-1.given i)))
    k.0.1.1 in
    let z = arrived a.stakes.now a.store.now a.index.now k.0.0.0 k.0.1.0
    (bytes_of a.store.now (λ i h. omega (arith, c.shared_slice_known-2-1.given i)))
    k.0.1.1 g.invariant.0.older g.k g.at g.p g.invariant.0.arriving (omega (arith, c.loop-k-test.true, k.1.0.1)) in
    let r = entry_room a.store.now g.at z.entry in
    let i = z.inside in
    omega (arith, r.inside, i, c.well_formed)

pub step-requires : goal.step-requires
step-requires c =
    let a = c.args in
    let k = c.requires in
    let g = c.loop-k in
    let n = counted a.stakes.now a.store.now a.index.now k.0.0.0 k.0.1.0
    (bytes_of a.store.now (λ i h. omega (
      arith,
      c.shared_slice_known-2-1.given i,
    ))) k.0.1.1 in
    let z = arrived a.stakes.now a.store.now a.index.now k.0.0.0 k.0.1.0
    (bytes_of a.store.now (λ i h. omega (
      arith,
      c.shared_slice_known-2-1.given i,
    ))) k.0.1.1 g.invariant.0.older g.k g.at g.p g.invariant.0.arriving
    (omega (arith, c.loop-k-test.true, k.1.0.1)) in
    let r = entry_room a.store.now g.at z.entry in
    let i = z.inside in (
      k.0.0,
      (
        step_ready a.stakes.now a.store.now a.locators.now g.replies g.k g.at g.p g.invariant.0 a.index.now z _ _
            c.record_end-end.ensures refl,
        (k.1.0.0, answering_settled a.stakes.now a.store.now a.locators.now g.replies g.k g.at g.p g.invariant.0),
      ),
    )

pub loop-k-preserved : goal.loop-k-preserved
loop-k-preserved c =
    let a = c.args in
    let k = c.requires in
    let g = c.loop-k in
    let n = counted a.stakes.now a.store.now a.index.now k.0.0.0 k.0.1.0
    (bytes_of a.store.now (λ i h. omega (
      arith,
      c.shared_slice_known-2-1.given i,
    ))) k.0.1.1 in
    let z = arrived a.stakes.now a.store.now a.index.now k.0.0.0 k.0.1.0
    (bytes_of a.store.now (λ i h. omega (
      arith,
      c.shared_slice_known-2-1.given i,
    ))) k.0.1.1 g.invariant.0.older g.k g.at g.p g.invariant.0.arriving
    (omega (arith, c.loop-k-test.true, k.1.0.1)) in
    let r = entry_room a.store.now g.at z.entry in
    let i = z.inside in (
      answering_next a.stakes.now a.store.now a.locators.now g.replies g.k g.at g.p g.invariant.0 a.index.now z _ _
          c.record_end-end.ensures refl _ c.step.ensures,
      omega
          (arith, c.loop-k-test.true),
    )

pub shape_of-replies : goal.shape_of-replies
shape_of-replies c =
    let a = c.args in
    let k = c.requires in
    let g = c.loop-k in
    (answering_settled a.stakes.now a.store.now a.locators.now g.replies g.k g.at g.p g.invariant.0).long ∙ sym
    (ap length k.1.1 ∙ length-replicate (3 * length (asked a.locators.now)) 0)

pub returns : goal.returns
returns c =
    let a = c.args in
    let k = c.requires in
    let g = c.loop-k in
    let n : g.k ≡ a.steps = omega (arith, c.loop-k-test.false, g.invariant.1) in
    answered_first a.stakes.now a.store.now a.locators.now k.0.0.0 k.0.1.0 g.replies g.k g.at g.p g.invariant.0
    ∙ ap (λ (m : ℕ). replies_words (map (single_reply a.stakes.now (first_blocks m (blocks_of a.store.now))) (asked a.locators.now))) n
