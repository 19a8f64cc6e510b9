use mathlib.Core.Path.{ap, ◌∙◌}
use native.Mathlib.Omega.{arith}
use lib.ListN.{get_or}
use Rattle.base.specs.Le.{Bytes}
use Rattle.record_spec.specs.Record.{block_in, no_reference}
use Rattle.store_spec.specs.Entry.{block_at}
use Rattle.store_spec.proofs.Loops.{entry_room, record-part}
use Rattle.final_block_votes.proofs.include_at.Goals as goal

pub overflow_add-from : goal.overflow_add-from
overflow_add-from c = omega (arith, (entry_room c.args.store.now c.args.at c.requires.0).inside)

pub slice_bounds-include-end : goal.slice_bounds-include-end
slice_bounds-include-end c = omega (
  arith,
  (entry_room c.args.store.now c.args.at c.requires.0).inside,
  c.record_end-end.ensures,
)

pub include-requires : goal.include-requires
unfolding block_at
include-requires c = let a = c.args in
    rw (record-part a.store.now a.at c.record_end-end.result c.record_end-end.ensures)
    ((entry_room a.store.now a.at c.requires.0).formed, c.requires.1)

pub returns : goal.returns
unfolding block_at
returns c = let a = c.args in
    c.include.ensures ∙ ap (λ (x : Bytes). get_or (block_in x).includes a.j no_reference)
    (record-part a.store.now a.at c.record_end-end.result c.record_end-end.ensures)
