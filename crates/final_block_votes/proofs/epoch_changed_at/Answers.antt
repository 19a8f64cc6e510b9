use mathlib.Core.Path.{ap, ◌∙◌}
use native.Mathlib.Omega.{arith}
use Rattle.base.specs.Le.{Bytes}
use Rattle.record_spec.specs.Record.{block_in}
use Rattle.store_spec.specs.Entry.{block_at}
use Rattle.store_spec.proofs.Loops.{entry_room, record-part}
use Rattle.final_block_votes.proofs.epoch_changed_at.Goals as goal

pub overflow_add-from : goal.overflow_add-from
overflow_add-from c = omega (arith, (entry_room c.args.store.now c.args.at c.requires).inside)

pub slice_bounds-epoch_changed-end : goal.slice_bounds-epoch_changed-end
slice_bounds-epoch_changed-end c = omega (
  arith,
  (entry_room c.args.store.now c.args.at c.requires).inside,
  c.record_end-end.ensures,
)

pub epoch_changed-requires : goal.epoch_changed-requires
epoch_changed-requires c = let a = c.args in
    rw (record-part a.store.now a.at c.record_end-end.result c.record_end-end.ensures)
    (entry_room a.store.now a.at c.requires).formed

pub returns : goal.returns
unfolding block_at
returns c = let a = c.args in
    c.epoch_changed.ensures ∙ ap (λ (x : Bytes). (block_in x).marked)
    (record-part a.store.now a.at c.record_end-end.result c.record_end-end.ensures)
