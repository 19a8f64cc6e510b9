use mathlib.Core.Path.{◌≡◌, sym, ap, ◌∙◌}
use mathlib.Core.Bool.{true, false}
use native.Mathlib.Omega.{arith}
use Rattle.committee_set.specs.AuthoritySet.{inserted, nobody}
use Rattle.types.specs.Values.{as_reference, as_locator}
use Rattle.final_readings_spec.specs.Rejecting.{rejects}
use Rattle.final_block_rejects.proofs.Reading.{own_yes, own_no}
use Rattle.slip_read_records.specs.Places.{block_from, block_at_place}
use Rattle.slip_read_records.proofs.Frames.{record-part}
use Rattle.slip_read_rejecters.proofs.own_reject.Goals as goal

pub overflow_add-from : goal.overflow_add-from
overflow_add-from c = omega (arith, (c.requires.0.0.framed c.args.place c.requires.0.1).inside)

pub record_end-end-requires : goal.record_end-end-requires
record_end-end-requires c = c.requires.0.0.framed c.args.place c.requires.0.1

pub slice_bounds-rejects-end : goal.slice_bounds-rejects-end
slice_bounds-rejects-end c = omega (
  arith,
  (c.requires.0.0.framed c.args.place
      c.requires.0.1).inside,
  c.record_end-end.ensures,
)

pub rejects-requires : goal.rejects-requires
rejects-requires c = rw (record-part _ _ c.record_end-end.result c.record_end-end.ensures)
    (c.requires.0.0.framed c.args.place
    c.requires.0.1).formed

pub returns-then-not-rejects : goal.returns-then-not-rejects
unfolding block_at_place block_from
returns-then-not-rejects c =
    let a = c.args in
    let b = block_at_place a.records.now a.order.now a.place in
    let e : rejects b (as_locator a.locator) ≡ false = rw (record-part _ _ c.record_end-end.result
    c.record_end-end.ensures) at (sym c.rejects.ensures ∙ c.if-not-rejects.true) in
    c.new.ensures ∙ sym (own_no b (as_locator a.locator) e)

pub reference_at-block-requires : goal.reference_at-block-requires
reference_at-block-requires c = c.requires.0.0.framed
    c.args.place c.requires.0.1

pub insert-requires : goal.insert-requires
unfolding as_reference block_at_place
insert-requires c = rw (ap (λ r. r.authority) c.reference_at-block.ensures)
    c.requires.1

pub returns : goal.returns
unfolding block_at_place block_from as_reference
returns c =
    let a = c.args in
    let b = block_at_place a.records.now a.order.now a.place in
    let e : rejects b (as_locator a.locator) ≡ true = rw (record-part _ _ c.record_end-end.result
    c.record_end-end.ensures) at
    (sym c.rejects.ensures ∙ c.if-not-rejects.false) in
    c.insert.ensures ∙ rw c.new-2.ensures (ap (λ r. inserted nobody r.authority) c.reference_at-block.ensures) ∙ sym
    (own_yes b (as_locator a.locator) e)
