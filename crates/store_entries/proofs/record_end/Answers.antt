use native.Mathlib.Omega.{arith}
use Rattle.store_spec.proofs.Loops.{entry_room}
use Rattle.store_entries.proofs.record_end.Goals as goal

pub overflow_add-result : goal.overflow_add-result
overflow_add-result c = omega (arith, (entry_room c.args.store.now c.args.at c.requires).inside)

pub overflow_add-at : goal.overflow_add-at
overflow_add-at c = omega (arith, (entry_room c.args.store.now c.args.at c.requires).inside)

pub read_u32-requires : goal.read_u32-requires
read_u32-requires c = omega (arith, (entry_room c.args.store.now c.args.at c.requires).inside)

pub overflow_add-result-2 : goal.overflow_add-result-2
overflow_add-result-2 c = omega (
  arith,
  (entry_room c.args.store.now c.args.at c.requires).inside,
  c.read_u32.ensures,
)
