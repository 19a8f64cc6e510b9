use Rattle.std.proofs.Common.{◌-◌, ◌<◌, length, ap, arith}
use Rattle.pending_spec.specs.Items.{no_item}
use Rattle.pending_spec.specs.Table.{items_of}
use Rattle.pending_words.specs.Answers.{as_item}
use Rattle.pending_words.proofs.Slots.{holds_full}
use Rattle.base.proofs.Places.{every_place}
use Rattle.listing_counts.specs.Pending.{item_offsets}
use Rattle.listing_counts.proofs.Pending.{summed_start, summed_on, summed_end}
use Rattle.listing_counts.proofs.pending_offsets.Goals as goal

pub item_count-n-requires : goal.item_count-n-requires
item_count-n-requires c = c.requires.laid

pub loop-k-init : goal.loop-k-init
loop-k-init c = (summed_start _, omega arith)

pub item_at-x-requires : goal.item_at-x-requires
item_at-x-requires c = (c.requires.laid, omega (arith, c.loop-k-test.true, c.item_count-n.ensures))

pub overflow_sub-x : goal.overflow_sub-x
unfolding as_item
overflow_sub-x c =
    let l = c in
    let o = l in
    let inside : l.loop-k.k < length (items_of o.args.table.now) = omega (arith, c.loop-k-test.true, l.item_count-n.ensures) in
    let e = c.item_at-x.ensures in
    rw (ap (λ z. z.start) e, ap (λ z. z.end) e) (omega (arith, every_place no_item _ _ (holds_full _ o.requires) inside))

pub loop-k-preserved : goal.loop-k-preserved
unfolding as_item item_offsets
loop-k-preserved c =
    let l = c in
    let o = l in
    let inside : l.loop-k.k < length (items_of o.args.table.now) = omega
    (arith, c.loop-k-test.true, l.item_count-n.ensures) in
    let added = c.wrapping_add_u64-sum.ensures.value in
    (rw added (summed_on _ _ _ _ l.loop-k.invariant.0 inside (ap (λ z. z.end - z.start) c.item_at-x.ensures)), omega (arith, added))

pub returns : goal.returns
returns c = summed_end (items_of c.args.table.now) c.loop-k.k _ c.loop-k.invariant.0
    (omega (arith, c.loop-k-test.false, c.item_count-n.ensures)) c.loop-k.invariant.1
