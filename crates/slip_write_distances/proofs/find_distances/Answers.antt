use Prim.Native.Nat.{ℕ}
use mathlib.Core.Path.{◌≡◌, sym, subst, ◌∙◌}
use native.Mathlib.Omega.{arith}
use lib.ListN.{length}
use Rattle.types.specs.Values.{as_locator}
use Rattle.slip_write_distances.specs.Near.{Distances}
use Rattle.slip_write_distances.proofs.find_distances.Goals as goal

pub loop-k-init : goal.loop-k-init
loop-k-init c = (omega arith, c.requires.1)

pub read_block-requires : goal.read_block-requires
read_block-requires c = (
  (
    (c.requires.0.0, c.loop-k-test.true),
    c.requires.0.1,
  ),
  c.loop-k.invariant.1,
)

pub loop-k-preserved : goal.loop-k-preserved
loop-k-preserved c = (
  omega (arith, c.loop-k-test.true),
  c.read_block.ensures,
)

pub shape_of-near : goal.shape_of-near
shape_of-near c = c.loop-k.invariant.1.long ∙ sym c.requires.1.long

pub shape_of-steps : goal.shape_of-steps
shape_of-steps c = c.loop-k.invariant.1.long_steps ∙ sym c.requires.1.long_steps

pub returns : goal.returns
returns c = let a = c.args in
    let g = c.loop-k in
    let e : g.k ≡ length a.order.now = omega (arith, c.loop-k-test.false, g.invariant.0) in
    subst (λ (k : ℕ). Distances a.store.now a.order.now (as_locator a.locator) g.near g.steps k) e g.invariant.1
