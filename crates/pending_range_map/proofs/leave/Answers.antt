use mathlib.Core.Path.{◌∙◌}
use Prim.Native.Nat.{◌-◌}
use native.Mathlib.Omega.{arith}
use lib.ListN.{length-set}
use Rattle.pending_words.proofs.Moves.{kept_none, kept_more, kept_table}
use Rattle.pending_words.proofs.Slots.{holds_holding}
use Rattle.pending_range_map.proofs.leave.Goals as goal

pub loop-k-init : goal.loop-k-init
loop-k-init c = (omega arith, kept_none _ _ _ (holds_holding _ c.requires))

pub read_item-x-requires : goal.read_item-x-requires
read_item-x-requires c =
    omega (arith, c.loop-k.invariant.1.long, (holds_holding _ c.requires).fits)

pub put_item-requires : goal.put_item-requires
put_item-requires c =
    omega (
      arith,
      c.loop-k.invariant.1.long,
      c.loop-k.invariant.1.most,
      (holds_holding _
          c.requires).fits,
    )

pub loop-k-preserved : goal.loop-k-preserved
loop-k-preserved c = (
  omega arith,
  rw c.put_item.ensures
      (kept_more _ _ _ (holds_holding _ c.requires) _ _ _
      _ _ c.loop-k.invariant.1 (omega arith)
      c.read_item-x.ensures c.staying-kept.ensures.0),
)

pub clear-requires : goal.clear-requires
clear-requires c = (
  omega (arith, c.loop-k.invariant.1.most),
  omega
      (arith, c.loop-k.invariant.1.long, (holds_holding _ c.requires).fits),
)

pub bounds-t-0 : goal.bounds-t-0
bounds-t-0 c =
    omega (
      arith,
      c.clear.auto.t,
      c.loop-k.invariant.1.long,
      (holds_holding _
          c.requires).fits,
    )

pub shape_of-t : goal.shape_of-t
shape_of-t c = simp length-set (c.clear.auto.t ∙ c.loop-k.invariant.1.long)

pub returns : goal.returns
returns c =
    kept_table _ _ _ (holds_holding _ c.requires) _ _ _ _ _
    c.loop-k.invariant.1 (omega arith) c.item_count-n.ensures
    c.clear.ensures
