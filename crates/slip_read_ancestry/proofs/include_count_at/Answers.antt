use mathlib.Core.Path.{ap, ◌∙◌}
use native.Mathlib.Omega.{arith}
use lib.ListN.{length}
use Rattle.base.specs.Le.{Bytes}
use Rattle.record_spec.specs.Record.{block_in}
use Rattle.slip_read_records.specs.Places.{block_from, block_at_place}
use Rattle.slip_read_records.proofs.Frames.{record-part}
use Rattle.slip_read_ancestry.proofs.include_count_at.Goals as goal

pub overflow_add-from : goal.overflow_add-from
overflow_add-from c = omega (arith, (c.requires.0.framed c.args.place c.requires.1).inside)

pub record_end-end-requires : goal.record_end-end-requires
record_end-end-requires c = c.requires.0.framed c.args.place c.requires.1

pub slice_bounds-include_count-end : goal.slice_bounds-include_count-end
slice_bounds-include_count-end c = omega (
  arith,
  (c.requires.0.framed c.args.place
      c.requires.1).inside,
  c.record_end-end.ensures,
)

pub include_count-requires : goal.include_count-requires
include_count-requires c = rw (record-part _ _ c.record_end-end.result c.record_end-end.ensures)
    (c.requires.0.framed c.args.place
    c.requires.1).formed

pub returns : goal.returns
unfolding block_at_place block_from
returns c = c.include_count.ensures ∙ ap (λ (x : Bytes). length (block_in x).includes)
    (record-part _ _ c.record_end-end.result c.record_end-end.ensures)
