use mathlib.Core.Path.{◌≡◌}
use Prim.Native.Nat.{◌-◌}
use native.Mathlib.Omega.{arith}
use lib.ListN.{length}
use Rattle.pending_spec.specs.Table.{items_of}
use Rattle.pending_votes.proofs.Voting.{vote_item_fits}
use Rattle.pending_words.proofs.Moves.{mapped_none, mapped_more, mapped_table}
use Rattle.pending_words.proofs.Slots.{holds_holding, item_fits}
use Rattle.pending_votes.proofs.vote_items.Goals as goal

pub loop-k-init : goal.loop-k-init
loop-k-init c = (omega arith, mapped_none _ _)

pub read_item-x-requires : goal.read_item-x-requires
read_item-x-requires c =
    omega (arith, c.loop-k.invariant.1.long, (holds_holding _ c.requires.0).fits)

pub vote_item-requires : goal.vote_item-requires
vote_item-requires c =
    let start = c in (
      start.requires.1,
      vote_item_fits _ _ _ _ _ _ start.requires.0 start.requires.2 c.loop-k.invariant.1 (omega arith)
          c.read_item-x.ensures,
    )

pub put_item-requires : goal.put_item-requires
put_item-requires c =
    omega (
      arith,
      c.loop-k.invariant.1.long,
      (holds_holding _
          c.requires.0).fits,
    )

pub loop-k-preserved : goal.loop-k-preserved
loop-k-preserved c = (
  omega arith,
  rw c.put_item.ensures
      (mapped_more _ _ _ _ _ _ c.loop-k.invariant.1
      (item_fits _ _ c.requires.0.laid (omega arith))
      c.vote_item.ensures c.read_item-x.ensures),
)

pub shape_of-t : goal.shape_of-t
shape_of-t c = c.loop-k.invariant.1.long

pub returns : goal.returns
returns c =
    let start = c in
    let k : c.loop-k.k ≡ length (items_of start.args.t.now) = omega arith in
    mapped_table _ _ _ _ (holds_holding _ start.requires.0) (rw k at c.loop-k.invariant.1)
