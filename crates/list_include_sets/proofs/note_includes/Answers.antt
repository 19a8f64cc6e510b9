use Prim.Native.Nat.{◌-◌}
use mathlib.Core.Path.{◌≡◌, subst}
use native.Mathlib.Omega.{arith}
use lib.ListN.{length}
use Rattle.list_include_sets.specs.Sets.{Included}
use Rattle.list_include_sets.proofs.Noting.{noting_start, noting_more}
use Rattle.list_include_sets.proofs.note_includes.Goals as goal

pub loop-k-init : goal.loop-k-init
loop-k-init c = let a = c.args in
    noting_start a.store.now a.order.now a.sets.now c.requires.1.1

pub note_block-requires : goal.note_block-requires
note_block-requires c = let g = c.loop-k in (
  c.requires.0,
  (
    c.loop-k-test.true,
    (omega (arith, g.invariant.long, c.requires.1.0), g.invariant.clear),
  ),
)

pub same_before-requires : goal.same_before-requires
same_before-requires c = omega (
  arith,
  c.note_block.ensures.long,
  c.loop-k.invariant.long,
  c.loop-k-test.true,
  c.requires.1.0,
)

pub overflow_mul-sets : goal.overflow_mul-sets
overflow_mul-sets c = omega (
  arith,
  c.loop-k-test.true,
  c.requires.0.1,
)

pub overflow_add-sets : goal.overflow_add-sets
overflow_add-sets c = omega (
  arith,
  c.loop-k-test.true,
  c.requires.0.1,
)

pub offset_bounds-sets-k : goal.offset_bounds-sets-k
offset_bounds-sets-k c = omega (
  arith,
  c.loop-k-test.true,
  c.requires.0.1,
)

pub bounds-sets-k : goal.bounds-sets-k
bounds-sets-k c = omega (
  arith,
  c.note_block.ensures.long,
  c.loop-k.invariant.long,
  c.loop-k-test.true,
  c.requires.1.0,
)

pub loop-k-smaller : goal.loop-k-smaller
loop-k-smaller c = omega (arith, c.loop-k-test.true)

pub loop-k-preserved : goal.loop-k-preserved
loop-k-preserved c = let a = c.args in
    let g = c.loop-k in
    noting_more a.store.now a.order.now a.sets.now g.sets _ g.k g.invariant
    c.loop-k-test.true
    c.requires.1.0
    c.note_block.ensures c.same_before.result c.same_before.ensures

pub shape_of-sets : goal.shape_of-sets
shape_of-sets c = c.loop-k.invariant.long

pub returns : goal.returns
returns c = let a = c.args in
    let g = c.loop-k in
    let e : g.k ≡ length a.order.now = omega (arith, c.loop-k-test.false, g.invariant.inside) in
    subst (Included a.store.now a.order.now g.sets) e g.invariant.written
