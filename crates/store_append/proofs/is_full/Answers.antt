use mathlib.Core.Path.{sym}
use native.Mathlib.Omega.{arith}
use Rattle.store_spec.specs.Store.{used_length}
use Rattle.store_spec.proofs.Search.{laid_out_lem}
use Rattle.store_append.proofs.Appended.{full_bytes, full_blocks}
use Rattle.store_append.proofs.is_full.Goals as goal

pub read_u32-requires : goal.read_u32-requires
read_u32-requires c = omega (arith, (laid_out_lem c.args.store.now c.requires).reads.header.long)

pub overflow_sub-room : goal.overflow_sub-room
unfolding used_length
overflow_sub-room c = omega (arith, (laid_out_lem c.args.store.now c.requires).reads.header.within, c.read_u32.ensures)

pub returns-then-room-lt8 : goal.returns-then-room-lt8
unfolding used_length
returns-then-room-lt8 c = sym (full_bytes c.args.store.now c.requires
    c.args.rec.now (omega
    (arith, (laid_out_lem c.args.store.now c.requires).reads.header.within)))

pub returns-then-room-rec : goal.returns-then-room-rec
unfolding used_length
returns-then-room-rec c = sym (full_bytes c.args.store.now c.requires
    c.args.rec.now
    (omega (
      arith,
      (laid_out_lem c.args.store.now c.requires).reads.header.within,
    )))

pub read_u16-requires : goal.read_u16-requires
read_u16-requires c = omega (
  arith,
  (laid_out_lem c.args.store.now c.requires
      ).reads.header.long,
)

pub returns : goal.returns
unfolding used_length
returns c = rw c.read_u16.ensures (sym (full_blocks c.args.store.now
    c.requires c.args.rec.now
    (omega (
      arith,
      (laid_out_lem c.args.store.now c.requires
          ).reads.header.within,
    ))))
