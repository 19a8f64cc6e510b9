use Rattle.record_reader.specs.Values.{as_time}
use Rattle.draft_writer.proofs.write_timed_record.Goals as goal

pub returns : goal.returns
unfolding as_time
returns c = record { result_value = c.write_in.ensures.result_value; out_after = c.write_in.ensures.out_after }
