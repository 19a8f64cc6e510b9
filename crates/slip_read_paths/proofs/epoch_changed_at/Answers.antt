use mathlib.Core.Path.{ap, ◌∙◌}
use native.Mathlib.Omega.{arith}
use Rattle.base.specs.Le.{Bytes}
use Rattle.record_spec.specs.Record.{block_in}
use Rattle.slip_read_records.specs.Places.{block_from, block_at_place}
use Rattle.slip_read_records.proofs.Frames.{record-part}
use Rattle.slip_read_paths.proofs.epoch_changed_at.Goals as goal

pub overflow_add-from : goal.overflow_add-from
overflow_add-from c = omega (arith, (c.requires.0.framed c.args.place c.requires.1).inside)

pub record_end-end-requires : goal.record_end-end-requires
record_end-end-requires c = c.requires.0.framed c.args.place c.requires.1

pub slice_bounds-epoch_changed-end : goal.slice_bounds-epoch_changed-end
slice_bounds-epoch_changed-end c = omega (
  arith,
  (c.requires.0.framed c.args.place
      c.requires.1).inside,
  c.record_end-end.ensures,
)

pub epoch_changed-requires : goal.epoch_changed-requires
epoch_changed-requires c = rw (record-part _ _ c.record_end-end.result c.record_end-end.ensures)
    (c.requires.0.framed c.args.place
    c.requires.1).formed

pub returns : goal.returns
unfolding block_at_place block_from
returns c = c.epoch_changed.ensures ∙ ap (λ (x : Bytes). (block_in x).marked)
    (record-part _ _ c.record_end-end.result c.record_end-end.ensures)
