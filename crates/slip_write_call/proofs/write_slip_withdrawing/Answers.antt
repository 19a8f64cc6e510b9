use Rattle.final_readings_spec.specs.Answers.{as_reading}
use Rattle.slip_write_call.proofs.write_slip_withdrawing.Goals as goal

pub returns : goal.returns
unfolding as_reading
returns c = record { result_value = c.write_slip_in.ensures.result_value; out_after = c.write_slip_in.ensures.out_after }
