use Rattle.list_readings_spec.specs.Answers.{is_ordinary}
use Rattle.list_readings_spec.proofs.Old.{old_wide}
use Rattle.index_list.proofs.wide_stretches_indexed.Goals as goal

pub returns : goal.returns
unfolding is_ordinary
returns c = record {
  result_value = rw old_wide at c.list_stretches_indexed.ensures.result_value;
  out_after = rw old_wide at c.list_stretches_indexed.ensures.out_after;
}
