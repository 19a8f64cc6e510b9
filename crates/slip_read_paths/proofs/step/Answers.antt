use Rattle.slip_read_paths.specs.Walk.{ends}
use Rattle.slip_read_paths.proofs.Walks.{step_past, step_at}
use Rattle.record_spec.specs.Block.{Block}
use mathlib.Core.Path.{◌≡◌, sym, ap, ◌∙◌}
use native.Mathlib.Omega.{arith}
use lib.ListN.{length, get_or}
use Rattle.base.specs.Le.{Bytes}
use Rattle.record_spec.specs.Record.{block_in, no_reference}
use Rattle.slip_read_records.specs.Places.{block_from, block_at_place}
use Rattle.slip_read_records.proofs.Frames.{record-part}
use Rattle.slip_read_paths.proofs.step.Goals as goal

pub overflow_add-from : goal.overflow_add-from
overflow_add-from c = omega (
  arith,
  (c.requires.0.sorted.framed c.args.place c.requires.1
      ).inside,
)

pub record_end-end-requires : goal.record_end-end-requires
record_end-end-requires c = c.requires.0.sorted.framed c.args.place c.requires.1

pub slice_bounds-include_count-end : goal.slice_bounds-include_count-end
slice_bounds-include_count-end c = omega (
  arith,
  (c.requires.0.sorted.framed c.args.place
      c.requires.1).inside,
  c.record_end-end.ensures,
)

pub include_count-requires : goal.include_count-requires
include_count-requires c = rw (record-part _ _ c.record_end-end.result c.record_end-end.ensures)
    (c.requires.0.sorted.framed c.args.place
    c.requires.1).formed

pub returns-then-include_count-k : goal.returns-then-include_count-k
unfolding block_at_place block_from
returns-then-include_count-k c =
    let a = c.args in
    let b : Block = block_at_place a.records.now a.order.now a.place in
    let e : length b.includes ≡ c.include_count.result = ap (λ (x : Bytes). length (block_in x).includes)
    (sym (record-part _ _ c.record_end-end.result c.record_end-end.ensures)) ∙ sym
    c.include_count.ensures in
    rw (step_past _ b a.k (omega arith)) ends

pub slice_bounds-include-end : goal.slice_bounds-include-end
slice_bounds-include-end c = omega (
  arith,
  (c.requires.0.sorted.framed
      c.args.place c.requires.1).inside,
  c.record_end-end.ensures,
)

pub include-include-requires : goal.include-include-requires
include-include-requires c =
    let same = record-part _ _ c.record_end-end.result c.record_end-end.ensures in (
      rw same (c.requires.0.sorted.framed
          c.args.place
          c.requires.1).formed,
      omega (arith, c.include_count.ensures),
    )

pub returns : goal.returns
unfolding block_at_place block_from
returns c =
    let a = c.args in
    let b : Block = block_at_place a.records.now a.order.now a.place in
    let same = record-part _ _ c.record_end-end.result
    c.record_end-end.ensures in
    let e : length b.includes ≡ c.include_count.result = ap (λ (x : Bytes). length (block_in x).includes) (sym same) ∙
    sym c.include_count.ensures in
    let i = c.include-include.ensures ∙ ap (λ (x : Bytes). get_or (block_in x).includes a.k no_reference) same in
    rw (step_at _ b a.k (omega arith), ← i) c.find.ensures
