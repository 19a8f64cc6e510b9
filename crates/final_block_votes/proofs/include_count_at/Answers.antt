use mathlib.Core.Path.{ap, ◌∙◌}
use native.Mathlib.Omega.{arith}
use lib.ListN.{length}
use Rattle.base.specs.Le.{Bytes}
use Rattle.record_spec.specs.Record.{block_in}
use Rattle.store_spec.specs.Entry.{block_at}
use Rattle.store_spec.proofs.Loops.{entry_room, record-part}
use Rattle.final_block_votes.proofs.include_count_at.Goals as goal

pub overflow_add-from : goal.overflow_add-from
overflow_add-from c = omega (arith, (entry_room c.args.store.now c.args.at c.requires).inside)

pub slice_bounds-include_count-end : goal.slice_bounds-include_count-end
slice_bounds-include_count-end c = omega (
  arith,
  (entry_room c.args.store.now c.args.at c.requires).inside,
  c.record_end-end.ensures,
)

pub include_count-requires : goal.include_count-requires
include_count-requires c = let a = c.args in
    rw (record-part a.store.now a.at c.record_end-end.result c.record_end-end.ensures)
    (entry_room a.store.now a.at c.requires).formed

pub returns : goal.returns
unfolding block_at
returns c = let a = c.args in
    c.include_count.ensures ∙ ap (λ (x : Bytes). length (block_in x).includes)
    (record-part a.store.now a.at c.record_end-end.result c.record_end-end.ensures)
