use mathlib.Core.Path.{ap, ◌∙◌}
use native.Mathlib.Omega.{arith}
use Rattle.base.specs.Le.{Bytes}
use Rattle.record_spec.specs.Record.{block_in}
use Rattle.types.specs.Values.{as_locator}
use Rattle.store_spec.specs.Entry.{block_at}
use Rattle.store_spec.proofs.Loops.{entry_room, record-part}
use Rattle.final_spec.specs.Voters.{votes_for}
use Rattle.final_block_votes.proofs.votes_at.Goals as goal

pub overflow_add-from : goal.overflow_add-from
overflow_add-from c = omega (arith, (entry_room c.args.store.now c.args.at c.requires).inside)

pub slice_bounds-votes_for-end : goal.slice_bounds-votes_for-end
slice_bounds-votes_for-end c = omega (
  arith,
  (entry_room c.args.store.now c.args.at c.requires).inside,
  c.record_end-end.ensures,
)

pub votes_for-requires : goal.votes_for-requires
votes_for-requires c = let a = c.args in
    rw (record-part a.store.now a.at c.record_end-end.result c.record_end-end.ensures)
    (entry_room a.store.now a.at c.requires).formed

pub returns : goal.returns
unfolding block_at
returns c = let a = c.args in
    c.votes_for.ensures ∙ ap (λ (x : Bytes). votes_for (block_in x) (as_locator a.locator))
    (record-part a.store.now a.at c.record_end-end.result c.record_end-end.ensures)
