use Rattle.final_readings_spec.specs.Answers.{as_reading}
use Rattle.host.proofs.records.lomkhvide_write_slip.Goals as goal

pub returns : goal.returns
unfolding as_reading
returns c = record { value = c.write_slip.ensures.value; out_after = c.write_slip.ensures.out_after }
