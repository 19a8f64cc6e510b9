use Rattle.list_readings_spec.specs.Answers.{is_ordinary}
use Rattle.host_index_finals.specs.Indexed.{wide_stretches_indexed_call}
use native.Mathlib.Omega.{arith}
use lib.Seq.{length-take-le}
use Rattle.list_readings_spec.proofs.Old.{old_wide}
use mathlib.Core.Path.{sym}
use Rattle.host.proofs.finals.lomkhvide_wide_stretches_indexed.Goals as goal

pub slice_bounds-stretches_of-end : goal.slice_bounds-stretches_of-end
slice_bounds-stretches_of-end c = sym (length-take-le c.stakes_of-n.result c.stakes_of-n.new.stakes
    (omega (arith, c.stakes_of-n.auto.stakes, c.stakes_of-n.ensures.0)))

pub returns : goal.returns
unfolding wide_stretches_indexed_call is_ordinary
returns c = record {
  value = rw (← c.stakes_of-n.ensures.1) (rw old_wide at c.stretches_of.ensures.0);
  out_after = rw (← c.stakes_of-n.ensures.1)
      (rw old_wide at c.stretches_of.ensures.1);
}
