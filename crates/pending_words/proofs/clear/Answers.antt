use mathlib.Core.Path.{◌≡◌}
use native.Mathlib.Omega.{arith}
use Rattle.pending_words.proofs.Moves.{cleared_none, cleared_more}
use Rattle.pending_words.proofs.clear.Goals as goal

pub loop-k-init : goal.loop-k-init
loop-k-init c = (omega arith, omega arith, cleared_none _ _)

pub put_item-requires : goal.put_item-requires
put_item-requires c = omega (arith, c.loop-k.invariant.2.long)

pub loop-k-preserved : goal.loop-k-preserved
loop-k-preserved c = (
  omega arith,
  omega arith,
  rw c.put_item.ensures
      (cleared_more _ _ _ _ _ c.loop-k.invariant.2 (omega arith) (omega arith)
      c.no_item.ensures),
)

pub shape_of-t : goal.shape_of-t
shape_of-t c = c.loop-k.invariant.2.long

pub returns : goal.returns
returns c = let e : c.loop-k.k ≡ c.args.n = omega arith in rw e at c.loop-k.invariant.2
