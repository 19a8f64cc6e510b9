use mathlib.Core.Path.{refl, sym, ◌∙◌}
use native.Mathlib.Omega.{arith}
use lib.ListN.{length-set}
use Rattle.stakes_chain.specs.Layout.{first_index, next_index}
use Rattle.stakes_chain.specs.Chain.{chain_of}
use Rattle.stakes_chain.proofs.Chains.{long_enough}
use Rattle.stakes_chain.specs.Answers.{as_chain}
use Rattle.stakes_chain.proofs.Walk.{walked_start, walked_end, walked_out, walked_past, walked_inside, walked_on}
use Rattle.stakes_chain.proofs.chain.Goals as goal

pub returns-then-not-well_sized : goal.returns-then-not-well_sized
unfolding as_chain chain_of
returns-then-not-well_sized c = (omega arith, sym (rw (sym c.well_sized.ensures ∙ c.if-not-well_sized.true)))

pub overflow_sub-count : goal.overflow_sub-count
overflow_sub-count c = omega (arith, (long_enough _ (sym c.well_sized.ensures ∙ c.if-not-well_sized.false)).0)

pub read_u16-i-requires : goal.read_u16-i-requires
read_u16-i-requires c = omega (arith, (long_enough _ (sym c.well_sized.ensures ∙ c.if-not-well_sized.false)).0)

pub loop-i-init : goal.loop-i-init
unfolding first_index
loop-i-init c = (
  walked_start _ _ _ (sym c.well_sized.ensures ∙ c.if-not-well_sized.false) refl _ c.read_u16-i.ensures,
  (omega arith, omega arith),
)

pub returns-then-n-count : goal.returns-then-n-count
unfolding as_chain
returns-then-n-count c = (omega arith, sym (walked_out _ _ _ _ _ c.loop-i.invariant.0 (λ z. omega arith) (omega arith)))

pub overflow_cast-i : goal.overflow_cast-i
overflow_cast-i c = omega arith

pub returns-then-count-i : goal.returns-then-count-i
unfolding as_chain
returns-then-count-i c = (omega arith, sym (walked_past _ _ _ _ _ c.loop-i.invariant.0 (λ z. omega arith) (omega arith)))

pub read_u16-i-requires-in-loop-i : goal.read_u16-i-requires-in-loop-i
read_u16-i-requires-in-loop-i c = omega (
  arith,
  c.place.ensures,
  walked_inside _ _ _ _ _ c.loop-i.invariant.0 (λ z. omega arith)
      (omega arith),
)

pub loop-i-preserved : goal.loop-i-preserved
unfolding next_index
loop-i-preserved c =
    let w = c.loop-i.invariant in (
      walked_on _ _ _ _ _ w.0 (λ z. omega arith) (λ z. omega arith) (omega arith) w.1.1 _ (c.read_u16-i-in-loop-i.ensures ∙ (rw c.place.ensures)),
      (omega arith, simp length-set w.1.1),
    )

pub returns : goal.returns
unfolding as_chain
returns c = (omega arith, sym (walked_end _ _ _ _ _ c.loop-i.invariant.0 (omega arith)))
