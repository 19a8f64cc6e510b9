use Prim.Native.Nat.{◌<◌}
use mathlib.Core.Path.{◌≡◌, refl, ap, ◌∙◌}
use native.Mathlib.Omega.{arith}
use lib.ListN.{length, take}
use Rattle.store_spec.specs.Store.{block_count, records_of}
use Rattle.store_spec.specs.Entry.{sorted_positions}
use Rattle.store_spec.proofs.Loops.{entry_room}
use Rattle.store_spec.proofs.Search.{laid_out_lem}
use Rattle.final_block_votes.proofs.Along.{block_count_lem, sorted_count, chain_first, sorted_entry, walked_step, walked_end}
use Rattle.final_block_votes.proofs.sorted_positions.Goals as goal

pub read_u16-count-requires : goal.read_u16-count-requires
read_u16-count-requires c = omega (arith, (laid_out_lem c.args.store.now c.requires.0).reads.header.long)

pub read_u32-at-requires : goal.read_u32-at-requires
read_u32-at-requires c = omega (arith, (laid_out_lem c.args.store.now c.requires.0).reads.header.long)

pub loop-k-init : goal.loop-k-init
loop-k-init c = record {
  inside = omega arith;
  same_size = refl;
  there = c.read_u32-at.ensures ∙ chain_first c.args.store.now c.requires.0;
  kept = refl;
}

pub offset_bounds-order-k : goal.offset_bounds-order-k
unfolding block_count
offset_bounds-order-k c = let s = c.args.store.now in
    omega (
      arith,
      c.loop-k-test.true,
      (laid_out_lem s c.requires.0).reads.header.few,
      c.read_u16-count.ensures,
    )

pub bounds-order-k : goal.bounds-order-k
unfolding block_count
bounds-order-k c = let s = c.args.store.now in
    omega (
      arith,
      c.loop-k-test.true,
      c.loop-k.invariant.same_size,
      c.requires.1,
      (laid_out_lem s
          c.requires.0).reads.header.few,
      c.read_u16-count.ensures,
    )

pub read_u32-at-requires-in-loop-k : goal.read_u32-at-requires-in-loop-k
unfolding block_count
read_u32-at-requires-in-loop-k c = let s = c.args.store.now in
    let l = c.loop-k in
    let n : l.k < length (sorted_positions (records_of s)) = omega (
      arith,
      c.loop-k-test.true,
      c.read_u16-count.ensures,
      sorted_count s c.requires.0,
      block_count_lem s c.requires.0,
    ) in
    rw l.invariant.there (omega (arith, (entry_room s _ (sorted_entry s c.requires.0 l.k n)).inside))

pub loop-k-preserved : goal.loop-k-preserved
unfolding block_count
loop-k-preserved c = let s = c.args.store.now in
    let l = c.loop-k in
    walked_step s c.requires.0 _ l.order l.at l.k l.invariant
    (omega (arith, c.loop-k-test.true, c.read_u16-count.ensures))
    (omega (
      arith,
      c.loop-k-test.true,
      l.invariant.same_size,
      c.requires.1,
      (laid_out_lem s
          c.requires.0).reads.header.few,
      c.read_u16-count.ensures,
    )) _
    c.read_u32-at-in-loop-k.ensures

pub shape_of-order : goal.shape_of-order
shape_of-order c = c.loop-k.invariant.same_size

pub returns : goal.returns
unfolding block_count
returns c = let s = c.args.store.now in
    let l = c.loop-k in
    let e : c.read_u16-count.result ≡ block_count s = c.read_u16-count.ensures in
    let k : l.k ≡ block_count s = omega (arith, c.loop-k-test.false, l.invariant.inside, e) in (
      omega (arith, e, (laid_out_lem s c.requires.0).reads.header.few),
      (
        e ∙ block_count_lem s c.requires.0,
        ap (λ n. take n l.order) e ∙ walked_end s
            c.requires.0 _ l.order l.at (rw k at l.invariant),
      ),
    )
