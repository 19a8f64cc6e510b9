use Prim.Native.Nat.{ℕ, ◌-◌}
use mathlib.Core.Path.{◌≡◌, subst, ◌∙◌}
use native.Mathlib.Omega.{arith}
use lib.ListN.{length}
use Rattle.final_block_votes.specs.Walk.{block_at_place}
use Rattle.final_block_votes.proofs.Sorting.{place_entry, include_found}
use Rattle.list_includes_spec.specs.Places.{IsPlace}
use Rattle.list_include_sets.specs.Sets.{NotedRow}
use Rattle.list_include_sets.proofs.Noting.{noted_start, noted_more}
use Rattle.list_include_sets.proofs.note_block.Goals as goal

pub include_count_at-count-requires : goal.include_count_at-count-requires
include_count_at-count-requires c = place_entry c.args.store.now c.args.order.now
    c.requires.0.0 c.args.k c.requires.1.0

pub loop-j-init : goal.loop-j-init
loop-j-init c = let a = c.args in
    (omega arith, noted_start a.store.now a.order.now a.k a.sets.now c.requires.1.1.1)

pub include_at-include-requires : goal.include_at-include-requires
unfolding block_at_place
include_at-include-requires c = let a = c.args in (
  place_entry a.store.now a.order.now c.requires.0.0 a.k
      c.requires.1.0,
  omega
      (arith, c.loop-j-test.true, c.include_count_at-count.ensures),
)

pub place_of-requires : goal.place_of-requires
unfolding block_at_place
place_of-requires c = let a = c.args in (
  c.requires.0.0,
  rw c.include_at-include.ensures
      (include_found a.store.now a.order.now c.requires.0.0 a.k
      c.requires.1.0 c.loop-j.j
      (omega (arith, c.loop-j-test.true, c.include_count_at-count.ensures))),
)

pub put-requires : goal.put-requires
put-requires c = (
  omega (arith, c.place_of.ensures.0, c.requires.0.1),
  omega (
    arith,
    c.loop-j.invariant.1.long,
    c.requires.1.1.0,
    c.requires.1.0,
    c.requires.0.1,
  ),
)

pub loop-j-preserved : goal.loop-j-preserved
unfolding IsPlace block_at_place
loop-j-preserved c = let a = c.args in
    let g = c.loop-j in
    rw c.put.ensures (
      omega (arith, c.loop-j-test.true),
      noted_more a.store.now
          a.order.now a.k a.sets.now g.sets g.j c.place_of.result g.invariant.1
          (omega (
            arith,
            c.place_of.ensures.0,
            c.requires.0.1,
          )) (omega (
            arith,
            g.invariant.1.long,
            c.requires.1.1.0,
            c.requires.1.0,
            c.requires.0.1,
          )) (
            c.place_of.ensures.0,
            c.place_of.ensures.1 ∙ c.include_at-include.ensures,
          ),
    )

pub shape_of-sets : goal.shape_of-sets
shape_of-sets c = c.loop-j.invariant.1.long

pub returns : goal.returns
unfolding block_at_place
returns c = let a = c.args in
    let g = c.loop-j in
    let e : g.j ≡ length (block_at_place a.store.now a.order.now a.k).includes = omega
    (arith, c.loop-j-test.false, g.invariant.0, c.include_count_at-count.ensures) in
    subst (λ (n : ℕ). NotedRow a.store.now a.order.now a.k n a.sets.now g.sets) e g.invariant.1
