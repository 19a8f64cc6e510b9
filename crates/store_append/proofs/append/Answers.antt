use Prim.Native.Nat.{ℕ, ◌+◌}
use mathlib.Core.Path.{◌∙◌}
use native.Mathlib.Omega.{arith}
use lib.ListN.{length}
use Rattle.base.specs.Le.{Bytes}
use Rattle.base.proofs.Le.{AllBytes, bytes_of}
use Rattle.record_spec.specs.Record.{block_in}
use Rattle.types.specs.Values.{as_reference}
use Rattle.store_lookup.specs.Step.{Neighbours}
use Rattle.store_spec.proofs.Search.{laid_out_lem}
use Rattle.store_append.proofs.Appended.{roomy, reach, appended_so}
use Rattle.store_append.proofs.append.Goals as goal

pub read_u32-used-requires : goal.read_u32-used-requires
read_u32-used-requires c = omega (
  arith,
  (laid_out_lem c.args.store.now c.requires.0).reads.header.long,
)

pub read_u16-count-requires : goal.read_u16-count-requires
read_u16-count-requires c = omega (
  arith,
  (laid_out_lem c.args.store.now
      c.requires.0).reads.header.long,
)

pub chain_place-place-requires : goal.chain_place-place-requires
chain_place-place-requires c = let o = c in
    (o.requires.0, (o.requires.1.1.1.1, rw c.reference.ensures o.requires.1.1.0))

pub overflow_add-end : goal.overflow_add-end
overflow_add-end c =
    let m = roomy c.args.store.now
    c.requires.0
    c.args.rec.now
    c.requires.1.1.1.0 in
    omega (arith, m.bytes, m.after, m.short, c.read_u32-used.ensures)

pub overflow_cast-end : goal.overflow_cast-end
overflow_cast-end c =
    let m = roomy c.args.store.now
    c.requires.0
    c.args.rec.now
    c.requires.1.1.1.0 in
    omega (arith, m.bytes, m.after, m.short, c.read_u32-used.ensures)

pub overflow_add-end-2 : goal.overflow_add-end-2
overflow_add-end-2 c =
    let m = roomy c.args.store.now
    c.requires.0
    c.args.rec.now
    c.requires.1.1.1.0 in
    omega (arith, m.bytes, m.after, m.short, c.read_u32-used.ensures)

pub overflow_cast-place : goal.overflow_cast-place
overflow_cast-place c =
    let m = roomy c.args.store.now
    c.requires.0
    c.args.rec.now
    c.requires.1.1.1.0 in
    let k = reach c.args.store.now
    c.requires.0
    (as_reference c.reference.result) c.chain_place-place.result.below
    c.chain_place-place.result.above c.chain_place-place.ensures in
    omega (arith, m.short, k.above_in)

pub write_entry-requires : goal.write_entry-requires
write_entry-requires c =
    let m = roomy c.args.store.now
    c.requires.0
    c.args.rec.now
    c.requires.1.1.1.0 in (
      omega (arith, m.bytes, m.after, c.read_u32-used.ensures),
      omega
          (arith, m.bytes, m.after, m.short),
    )

pub write_u32-requires : goal.write_u32-requires
write_u32-requires c = omega (
  arith,
  (laid_out_lem c.args.store.now c.requires.0).reads.header.long,
  c.write_entry.auto.store,
)

pub overflow_add-count : goal.overflow_add-count
overflow_add-count c =
    let m = roomy c.args.store.now c.requires.0
    c.args.rec.now c.requires.1.1.1.0 in
    omega (arith, m.blocks, c.read_u16-count.ensures)

pub write_u16-requires : goal.write_u16-requires
write_u16-requires c = omega (
  arith,
  (laid_out_lem c.args.store.now
      c.requires.0).reads.header.long,
  c.write_entry.auto.store,
  c.write_u32.auto.s,
)

pub write_u32-requires-2 : goal.write_u32-requires-2
write_u32-requires-2 c =
    let k = reach c.args.store.now
    c.requires.0
    (as_reference c.reference.result) c.chain_place-place.result.below c.chain_place-place.result.above c.chain_place-place.ensures in
    omega (
      arith,
      k.below_in,
      c.write_entry.auto.store,
      c.write_u32.auto.s,
      c.write_u16.auto.s,
    )

pub returns : goal.returns
returns c =
    let a = c.args in
    let s : Bytes = a.store.now in
    let rec : Bytes = a.rec.now in
    let used : ℕ = c.read_u32-used.result in
    let b : AllBytes s = bytes_of s (λ i h. omega (
      arith,
      c.slice_known-1.given i,
    )) in
    let p : Neighbours s (block_in rec).reference c.chain_place-place.result.below
    c.chain_place-place.result.above = rw c.reference.ensures at c.chain_place-place.ensures in
    c.write_u32-2.ensures
    ∙ rw (
      c.write_u16.ensures,
      c.write_u32.ensures,
      c.write_entry.ensures,
    )
    (appended_so s b c.requires.0 rec
    c.chain_place-place.result.below c.chain_place-place.result.above used (used + 8 + length rec)
    (c.read_u16-count.result + 1) p c.requires.1.1.1.0
    c.read_u32-used.ensures (omega (
      arith,
      c.read_u32-used.ensures,
    ))
    (omega (
      arith,
      c.read_u16-count.ensures,
    )))
