use mathlib.Core.Path.{ap, ◌∙◌}
use native.Mathlib.Omega.{arith}
use Rattle.base.specs.Le.{Bytes}
use Rattle.record_spec.specs.Record.{block_in}
use Rattle.types.specs.Values.{as_locator}
use Rattle.store_spec.specs.Entry.{block_at}
use Rattle.store_spec.proofs.Loops.{entry_room, record-part}
use Rattle.final_readings_spec.specs.Rejecting.{rejects}
use Rattle.final_block_rejects.proofs.rejects_at.Goals as goal

pub overflow_add-from : goal.overflow_add-from
overflow_add-from c = omega (arith, (entry_room c.args.store.now c.args.at c.requires).inside)

pub slice_bounds-rejects-end : goal.slice_bounds-rejects-end
slice_bounds-rejects-end c = omega (
  arith,
  (entry_room c.args.store.now c.args.at c.requires).inside,
  c.record_end-end.ensures,
)

pub rejects-requires : goal.rejects-requires
rejects-requires c = let a = c.args in
    rw (record-part a.store.now a.at c.record_end-end.result c.record_end-end.ensures)
    (entry_room a.store.now a.at c.requires).formed

pub returns : goal.returns
unfolding block_at
returns c = let a = c.args in
    c.rejects.ensures ∙ ap (λ (x : Bytes). rejects (block_in x) (as_locator a.locator))
    (record-part a.store.now a.at c.record_end-end.result c.record_end-end.ensures)
