use mathlib.Core.Path.{ap, ◌∙◌}
use native.Mathlib.Omega.{arith}
use Rattle.base.specs.Le.{Bytes}
use Rattle.record_spec.specs.Record.{block_in}
use Rattle.store_spec.specs.Entry.{block_at}
use Rattle.store_spec.proofs.Loops.{entry_room, record-part}
use Rattle.store_entries.proofs.author_at.Goals as goal

pub overflow_add-from : goal.overflow_add-from
overflow_add-from c = omega (arith, (entry_room c.args.store.now c.args.at c.requires).inside)

pub slice_bounds-author-end : goal.slice_bounds-author-end
slice_bounds-author-end c = omega (
  arith,
  (entry_room c.args.store.now c.args.at c.requires).inside,
  c.record_end-end.ensures,
)

pub author-requires : goal.author-requires
author-requires c =
    let a = c.args in
    rw (record-part a.store.now a.at c.record_end-end.result c.record_end-end.ensures)
    (entry_room a.store.now a.at c.requires).formed

pub returns : goal.returns
unfolding block_at
returns c =
    let a = c.args in
    c.author.ensures ∙ ap (λ (x : Bytes). (block_in x).reference.authority)
    (record-part a.store.now a.at c.record_end-end.result c.record_end-end.ensures)
